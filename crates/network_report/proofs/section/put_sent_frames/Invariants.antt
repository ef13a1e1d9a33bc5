-- The lines of the frames so far were put.
use Rattle.report.specs.Report.{frame_line}
use Rattle.network_report.proofs.FrameSteps.{PutSoFar}
use Rattle.network_report.proofs.section.put_sent_frames.Given as goal

abbrev pub invariant-loop-len : goal.invariant-loop-len
invariant-loop-len g l =
    PutSoFar g.W.Sink.taken g.W.Sink.failed (frame_line l.word) l.lengths l.initial.rest l.len-index l.rest
    l.initial.out
    l.out
