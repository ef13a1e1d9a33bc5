use Rattle.network.proofs.SentFrames.{steps}
use Rattle.network.proofs.laws.steps_append.Goals as goal

pub returns : goal.returns
returns c = steps
