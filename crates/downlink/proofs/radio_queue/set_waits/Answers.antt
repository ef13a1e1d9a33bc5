use Rattle.std.proofs.Common.{refl}
use Rattle.air_share.specs.LaneRuns.{lane_step}
use Rattle.downlink.proofs.radio_queue.set_waits.Goals as goal

pub returns : goal.returns
unfolding lane_step
returns c = refl
