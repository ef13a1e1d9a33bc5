use Rattle.stations.proofs.StationStates.{one-station}
use Rattle.stations.proofs.StationTables.{range-of_associated, rest-apart}
use Rattle.stations.proofs.laws.identifiers_differ.Goals as goal

pub returns : goal.returns
returns c = record { range = range-of_associated; one = one-station; rest = rest-apart }
