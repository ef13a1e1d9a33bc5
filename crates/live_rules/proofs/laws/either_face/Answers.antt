use Rattle.live_rules.proofs.SameSaid.{all-same, octets-are, text-is}
use Rattle.live_rules.proofs.laws.either_face.Goals as goal

pub returns-clause-text : goal.returns-clause-text
returns-clause-text c = text-is

pub returns-clause-octets : goal.returns-clause-octets
returns-clause-octets c = octets-are

pub returns-clause-same : goal.returns-clause-same
returns-clause-same c = all-same c.address_comes_back.ensures
