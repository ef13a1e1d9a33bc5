-- The lines of the frames that went from the front were put.
use Rattle.std.proofs.Common.{◌≡◌, ℕ, List, ◌++◌, length}
use Rattle.std.specs.Prelude.{flat_map}
use Rattle.text_io.specs.Buffers.{Puts, watch}
use Rattle.report.specs.Report.{frame_line}
use Rattle.play_text.proofs.reporting.put_parts.Given as goal

abbrev pub invariant-loop-rest : goal.invariant-loop-rest
invariant-loop-rest g l =
    (done : List (List ℕ)) × (l.frames ≡ done ++ l.rest)
    × Puts (watch g.W.Sink.taken g.W.Sink.failed) l.initial.out l.out (flat_map (frame_line l.word) done)

abbrev pub decreases-loop-rest : goal.decreases-loop-rest
decreases-loop-rest g l = length l.rest
