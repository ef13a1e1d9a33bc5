use Rattle.stations.proofs.StationStates.{state_of-set, state_of-forgotten, state_of-moded, forgotten-set, forgotten-twice, forgotten}
use Rattle.stations.proofs.laws.others_stay.Goals as goal

pub returns : goal.returns
returns c = record {
  set = state_of-set;
  forgotten = state_of-forgotten;
  moded = state_of-moded;
  rest_set = forgotten-set;
  rest_forgotten = forgotten-twice;
  gone = forgotten;
}
