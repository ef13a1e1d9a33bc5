use Rattle.std.proofs.Common.{◌≡◌, ◌<◌, ℕ, [], get_or, length, map, take}
use Rattle.std.specs.Prelude.{All}
use Rattle.workers.specs.Receipts.{histories, limits, AreReceiptsOf, IsFullLast}
use Rattle.workers.proofs.receipts.givers_of.Given as goal

abbrev pub invariant-loop-place : goal.invariant-loop-place
invariant-loop-place l = map length l.givers.items ≡ map length (histories (take l.place l.networks))

abbrev pub invariant-loop-number : goal.invariant-loop-number
invariant-loop-number l =
    (i : ℕ) → i < l.number → AreReceiptsOf i (histories l.networks) l.givers.items (get_or l.callers i [])

abbrev pub invariant-loop-caller : goal.invariant-loop-caller
invariant-loop-caller l =
    All (IsFullLast (limits l.networks) (histories l.networks)) (take l.caller-index l.callers)
