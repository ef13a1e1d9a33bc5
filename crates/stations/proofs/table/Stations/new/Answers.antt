use Rattle.std.proofs.Common.{refl}
use Rattle.stations.proofs.StationTables.{no-numbers}
use Rattle.stations.proofs.table.Stations.new.Goals as goal

pub invariant_of-result : goal.invariant_of-result
invariant_of-result c = rw (c.new-2.ensures, c.new.ensures) (record { limit = c.requires.few; pool = no-numbers c.args.most; dozing = refl })
