use Rattle.std.proofs.Common.{◌≡◌, not, List, drop}
use Rattle.std.specs.Prelude.{filter}
use Rattle.powersave.specs.Keep.{Entry}
use Rattle.roster.specs.KeptUnits.{is_too_old}
use Rattle.roster.specs.Roster.{AreWaitedFor, AreAmong}
use Rattle.roster.proofs.roster.Roster.show_each.Given as goal

-- the identifiers of those that units are kept for, once those for some are without the units that are too old
abbrev pub invariant-loop-one : goal.invariant-loop-one
invariant-loop-one l =
    (es : List Entry)
    × (filter (λ e. not (is_too_old l.clock l.self.stations.table e)) es ≡ filter (λ e. not (is_too_old l.clock l.self.stations.table e)) l.self.kept.entries)
    × AreAmong l.clock l.self.stations.table (drop l.one-index l.oldest) es
    × AreWaitedFor l.bits l.self.stations.table es
