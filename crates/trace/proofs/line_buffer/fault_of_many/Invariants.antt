use Rattle.std.proofs.Common.{length}
use Rattle.trace.proofs.DigitTexts.{LookedAt}
use Rattle.trace.proofs.line_buffer.fault_of_many.Given as goal

abbrev pub invariant-loop-rest : goal.invariant-loop-rest
invariant-loop-rest l = LookedAt l.text l.rest l.is_odd

abbrev pub decreases-loop-rest : goal.decreases-loop-rest
decreases-loop-rest l = length l.rest
