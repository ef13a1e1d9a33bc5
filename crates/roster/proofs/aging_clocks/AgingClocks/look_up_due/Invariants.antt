use Rattle.std.proofs.Common.{◌≡◌, ℕ, drop}
use Rattle.roster.specs.AgingClocks.{HaveClocks, AreNoSooner}
use Rattle.stations.specs.Sound.{AreSound}
use Rattle.roster.specs.KeptUnits.{CameBy}
use Rattle.roster.proofs.SoonestClock.{AreNoSoonerBut}
use Rattle.roster.proofs.aging_clocks.AgingClocks.look_up_due.Given as goal

-- each has a clock still, and of those that were passed none is sooner than the soonest
abbrev pub invariant-loop-place : goal.invariant-loop-place
invariant-loop-place l = record {
  complete : l.self.complete ≡ l.initial.self.complete;
  aids : l.self.aids.items ≡ l.initial.self.aids.items;
  clocks : (most last : ℕ) → AreSound most l.stations.table → CameBy last l.kept.entries
      → HaveClocks l.initial.self.clocks.items l.initial.self.aids.items l.stations.table l.kept.entries
      → HaveClocks l.self.clocks.items l.self.aids.items l.stations.table l.kept.entries;
  soonest : AreNoSooner l.fn.self.soonest l.fn.self.clocks.items l.fn.self.aids.items
      → AreNoSoonerBut l.soonest l.self.clocks.items l.initial.self.aids.items (drop l.place l.initial.self.aids.items);
}
