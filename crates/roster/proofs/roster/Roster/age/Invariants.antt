use Rattle.std.proofs.Common.{◌≡◌, ◌+◌, not, length, drop}
use Rattle.std.specs.Prelude.{filter}
use Rattle.roster.specs.KeptUnits.{CameBy, is_too_old}
use Rattle.roster.specs.Roster.{AreAmong}
use Rattle.roster.proofs.roster.Roster.age.Given as goal

-- those that are too old and still kept are kept for some of those to come
abbrev pub invariant-loop-one : goal.invariant-loop-one
invariant-loop-one l = record {
  left : filter (λ e. not (is_too_old l.clock l.fn.self.stations.table e)) l.self.kept.entries ≡ filter (λ e. not (is_too_old l.clock l.fn.self.stations.table e)) l.fn.self.kept.entries;
  count : l.dropped + length (filter (is_too_old l.clock l.fn.self.stations.table) l.self.kept.entries) ≡ length (filter (is_too_old l.clock l.fn.self.stations.table) l.fn.self.kept.entries);
  among : AreAmong l.clock l.fn.self.stations.table (drop l.one-index l.oldest) l.self.kept.entries;
  came : CameBy l.clock l.self.kept.entries;
  stations : l.self.stations ≡ l.fn.self.stations;
  quota : l.self.kept.quota ≡ l.fn.self.kept.quota;
  puts : l.self.kept.puts ≡ l.fn.self.kept.puts;
}
