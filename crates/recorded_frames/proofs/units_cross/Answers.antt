use Rattle.recorded_frames.proofs.WiresRows.{to_wire_cross, to_air_cross, appletalk_to_wire_stays_whole}
use Rattle.recorded_frames.proofs.units_cross.Goals as goal

pub returns-clause-from_stations : goal.returns-clause-from_stations
returns-clause-from_stations c = to_wire_cross

pub returns-clause-from_hosts : goal.returns-clause-from_hosts
returns-clause-from_hosts c = to_air_cross

pub returns-clause-another_header : goal.returns-clause-another_header
returns-clause-another_header c = appletalk_to_wire_stays_whole
