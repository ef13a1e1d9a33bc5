use Rattle.std.proofs.Common.{◌≡◌}
use Rattle.air_share.specs.Lanes.{lowered}
use Rattle.air_share.proofs.Lists.{mapped_first}
use Rattle.air_share.proofs.lane.serve_chosen.Given as goal

abbrev pub invariant-loop-lane : goal.invariant-loop-lane
invariant-loop-lane l = l.lanes ≡ mapped_first (lowered l.least) l.lane-index l.initial.lanes
