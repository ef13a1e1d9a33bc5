use Rattle.network.proofs.AloneLaws.{alone-sound}
use Rattle.network.proofs.laws.reachable.Goals as goal

pub returns : goal.returns
returns c = alone-sound c.stays_sound.ensures
