use Rattle.std.proofs.Common.{◌-◌, length}
use Rattle.replay.proofs.JoinedSteps.{AreOthersTo}
use Rattle.replay.proofs.joined.split_joined.Given as goal

abbrev pub invariant-loop-len : goal.invariant-loop-len
invariant-loop-len l = AreOthersTo l.joined l.start

abbrev pub decreases-loop-len : goal.decreases-loop-len
decreases-loop-len l = length l.joined - l.start
