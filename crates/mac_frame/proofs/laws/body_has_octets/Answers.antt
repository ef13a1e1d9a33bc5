use Rattle.mac_frame.proofs.Frames.{body_octets, unit_octets}
use Rattle.mac_frame.proofs.laws.body_has_octets.Goals as goal

pub returns-clause-management : goal.returns-clause-management
returns-clause-management c = body_octets

pub returns-clause-msdu : goal.returns-clause-msdu
returns-clause-msdu c = unit_octets
