use Rattle.downlink.proofs.Asleep.{goes_by_polls}
use Rattle.downlink.proofs.laws.by_polls.Goals as goal

pub returns : goal.returns
returns c = goes_by_polls
