use Rattle.air_share.proofs.Runs.{is_exact}
use Rattle.air_share.proofs.lane_laws.exact.Goals as goal

pub returns : goal.returns
returns c = is_exact
