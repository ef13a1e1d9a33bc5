use Rattle.std.proofs.Common.{◌≡◌, [], replicate}
use Rattle.workers.proofs.start.open_callers.Given as goal

abbrev pub invariant-loop : goal.invariant-loop
invariant-loop l = l.callers.items ≡ replicate l.counter []
