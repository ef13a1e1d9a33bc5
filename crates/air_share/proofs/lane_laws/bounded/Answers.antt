use Rattle.air_share.proofs.Runs.{is_bounded}
use Rattle.air_share.proofs.lane_laws.bounded.Goals as goal

pub returns : goal.returns
returns c = is_bounded
