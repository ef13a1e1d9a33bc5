use Rattle.std.proofs.Common.{◌≡◌, vec_len}
use Rattle.workers.proofs.receipts.told_givers.Given as goal

abbrev pub invariant-loop-number : goal.invariant-loop-number
invariant-loop-number l = vec_len l.givers ≡ l.events

abbrev pub invariant-loop-entry : goal.invariant-loop-entry
invariant-loop-entry l = vec_len l.givers ≡ l.events
