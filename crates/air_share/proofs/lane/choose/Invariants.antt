use Rattle.air_share.proofs.Choices.{IsBest}
use Rattle.air_share.proofs.lane.choose.Given as goal

abbrev pub invariant-loop-place : goal.invariant-loop-place
invariant-loop-place l = IsBest l.lanes l.place l.best l.least
