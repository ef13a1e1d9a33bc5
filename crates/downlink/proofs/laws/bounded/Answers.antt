use Rattle.downlink.proofs.Bounds.{is_bounded}
use Rattle.downlink.proofs.laws.bounded.Goals as goal

pub returns : goal.returns
returns c = is_bounded
