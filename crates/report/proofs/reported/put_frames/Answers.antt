-- One more frame's line is put.
use Rattle.std.proofs.Common.{ap}
use Rattle.report.specs.Report.{frame_line}
use Rattle.text_io.specs.BufferLaws.{Puts-nothing, Puts-same, Puts-item, Puts-items}
use Rattle.report.proofs.reported.put_frames.Goals as goal

pub loop-frame-init : goal.loop-frame-init
loop-frame-init g c = Puts-nothing _ c.requires

pub loop-frame-preserved : goal.loop-frame-preserved
loop-frame-preserved g c =
    let line = frame_line c.args.word.now in
    Puts-item line c.args.frames.now c.loop-frame.frame-index c.frame-item.result c.loop-frame-test.true
    c.frame-item.is
    c.loop-frame.invariant
    (Puts-same (ap line c.as_slice.ensures) c.put_frame_line.ensures)

pub returns : goal.returns
returns g c =
    Puts-items (frame_line c.args.word.now) c.args.frames.now c.loop-frame.frame-index c.loop-frame-test.false
    c.loop-frame.invariant
