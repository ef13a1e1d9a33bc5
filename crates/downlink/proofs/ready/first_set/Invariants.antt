use Rattle.downlink.proofs.Bits.{IsClearBefore}
use Rattle.downlink.proofs.ready.first_set.Given as goal

abbrev pub invariant-loop-place : goal.invariant-loop-place
invariant-loop-place l = IsClearBefore l.words l.from l.place
