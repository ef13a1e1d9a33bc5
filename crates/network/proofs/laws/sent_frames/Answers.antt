use Rattle.network.proofs.SentFrames.{air-push}
use Rattle.network.proofs.laws.sent_frames.Goals as goal

pub returns : goal.returns
returns c = air-push
