use Rattle.std.proofs.Common.{◌≡◌, length}
use Rattle.trace.specs.TraceText.{without_spaces_at_start}
use Rattle.trace.proofs.line.without_spaces_at_start.Given as goal

abbrev pub invariant-loop-rest : goal.invariant-loop-rest
invariant-loop-rest l = without_spaces_at_start l.rest ≡ without_spaces_at_start l.text

abbrev pub decreases-loop-rest : goal.decreases-loop-rest
decreases-loop-rest l = length l.rest
