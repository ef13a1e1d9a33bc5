use Rattle.air_share.proofs.Runs.{is_soon}
use Rattle.air_share.proofs.lane_laws.soon.Goals as goal

pub returns : goal.returns
returns c = is_soon
