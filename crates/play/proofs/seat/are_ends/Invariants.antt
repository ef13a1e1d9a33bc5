use Rattle.std.proofs.Common.{◌≡◌, ◌<◌, ℕ, length, slice_index_or}
use Rattle.play.specs.Lines.{lines_of}
use Rattle.play.specs.Sources.{lists_of}
use Rattle.play.proofs.seat.are_ends.Given as goal

-- the sources before this one have ended
abbrev pub invariant-loop-source : goal.invariant-loop-source
invariant-loop-source l =
    (i : ℕ) → i < l.source → slice_index_or l.next i 0 ≡ length (lines_of (lists_of l.sources) i)
