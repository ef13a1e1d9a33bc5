use Rattle.std.proofs.Common.{◌≡◌, ◌<◌, ℕ, [], get_or}
use Rattle.play.specs.Givers.{dealt}
use Rattle.workers.specs.Receipts.{histories, numbered, receipts_of}
use Rattle.workers.proofs.receipts.are_receipts.Given as goal

abbrev pub invariant-loop-place : goal.invariant-loop-place
invariant-loop-place l =
    (k : ℕ) → k < l.place
    → receipts_of k l.entries ≡ dealt (get_or l.givers k []) (numbered (get_or (histories l.networks) k [])) l.caller
