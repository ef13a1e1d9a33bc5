use Rattle.std.proofs.Common.{ap}
use Rattle.report.specs.Report.{frame_line}
use Rattle.text_io.specs.BufferLaws.{Puts-nothing, Puts-item, Puts-items, Puts-same}
use Rattle.live_rules.specs.AnswerText.{frame_words}
use Rattle.live.proofs.output.text.put_frames.Goals as goal

pub loop-frame-init : goal.loop-frame-init
loop-frame-init g c = Puts-nothing _ c.requires

pub loop-frame-preserved : goal.loop-frame-preserved
loop-frame-preserved g c =
    let line = frame_line (frame_words c.args.word.now c.args.bssid) in
    Puts-item line c.args.frames.now c.loop-frame.frame-index c.frame-item.result c.loop-frame-test.true
    c.frame-item.is
    c.loop-frame.invariant
    (Puts-same (ap line c.as_slice.ensures) c.put_frame.ensures)

pub returns : goal.returns
returns g c =
    Puts-items (frame_line (frame_words c.args.word.now c.args.bssid)) c.args.frames.now c.loop-frame.frame-index
    c.loop-frame-test.false
    c.loop-frame.invariant
