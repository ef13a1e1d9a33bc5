use Rattle.std.proofs.Common.{◌≡◌, length}
use Rattle.workers.specs.Receipts.{receipts_of}
use Rattle.workers.proofs.receipts.next_receipt.Given as goal

abbrev pub invariant-loop-rest : goal.invariant-loop-rest
invariant-loop-rest l = receipts_of l.place l.rest ≡ receipts_of l.place l.entries

abbrev pub decreases-loop-rest : goal.decreases-loop-rest
decreases-loop-rest l = length l.rest
