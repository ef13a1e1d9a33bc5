-- Some of the lines that end in the piece were taken, and the rest of it remains.
use Rattle.std.proofs.Common.{List, ℕ, length}
use Rattle.trace.proofs.take_text.cut_text.Given as goal

abbrev pub invariant-loop-end : goal.invariant-loop-end
invariant-loop-end g l =
    (first : g.row.P.Denot) (lines : g.row.L.Denot) (out : g.row.O.Denot) (whole : List ℕ)
    → g.P.TakeText.remains first lines out whole l.initial.part l.initial.lines l.initial.out l.piece
    → g.P.TakeText.remains first lines out whole l.part l.lines l.out l.rest

abbrev pub decreases-loop-end : goal.decreases-loop-end
decreases-loop-end g l = length l.rest
