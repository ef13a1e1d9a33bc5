use Rattle.stations.proofs.StationStates.{state_of-mode, aid_of-mode, set_mode-same, active-moded, mode-stays}
use Rattle.stations.proofs.laws.modes_alone.Goals as goal

pub returns : goal.returns
returns c = record { state = state_of-mode; identifier = aid_of-mode; same = set_mode-same; active = active-moded; stays = mode-stays }
