-- The lines of the frames so far were put.
use Rattle.std.proofs.Common.{take}
use Rattle.std.specs.Prelude.{flat_map}
use Rattle.text_io.specs.Buffers.{Puts, watch}
use Rattle.report.specs.Report.{frame_line}
use Rattle.report.proofs.reported.put_frames.Given as goal

abbrev pub invariant-loop-frame : goal.invariant-loop-frame
invariant-loop-frame g l =
    Puts (watch g.W.Sink.taken g.W.Sink.failed) l.initial.out l.out
    (flat_map (frame_line l.word) (take l.frame-index l.frames))
