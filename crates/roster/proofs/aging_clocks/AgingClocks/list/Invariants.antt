use Rattle.std.proofs.Common.{◌≡◌, ℕ, false, List, drop}
use Rattle.powersave.specs.Keep.{Entry, AreOldest, AreToldOnce}
use Rattle.stations.specs.Sound.{AreSound}
use Rattle.roster.specs.KeptUnits.{CameBy}
use Rattle.roster.specs.AgingClocks.{AreNoSooner}
use Rattle.roster.proofs.ClocksKept.{AreListing}
use Rattle.roster.proofs.aging_clocks.AgingClocks.list.Given as goal

-- those that were passed have their clocks, of which none is sooner than the soonest
abbrev pub invariant-loop-one : goal.invariant-loop-one
invariant-loop-one l = record {
  complete : l.self.complete ≡ false;
  soonest : AreNoSooner l.self.soonest l.self.clocks.items l.self.aids.items;
  listing : (most clock : ℕ) (kept : List Entry) → AreSound most l.stations.table → AreOldest l.oldest kept → AreToldOnce l.oldest → CameBy clock kept
      → AreListing l.stations.table (drop l.one-index l.oldest) l.self.clocks.items l.self.aids.items kept;
}
