use Rattle.stations.proofs.StationsSound.{length-set_state, length-forgotten, length-moded}
use Rattle.stations.proofs.laws.lengths_after.Goals as goal

pub returns : goal.returns
returns c = record { set = length-set_state; forgotten = length-forgotten; moded = length-moded }
