use Rattle.std.proofs.Common.{ap}
use Rattle.std.specs.Prelude.{flat_map}
use Rattle.report.specs.Report.{frame_line}
use Rattle.text_io.specs.BufferLaws.{Puts-same}
use Rattle.network_report.proofs.FrameSteps.{put-none, put-more, put-all}
use Rattle.network_report.proofs.section.put_sent_frames.Goals as goal

pub loop-len-init : goal.loop-len-init
loop-len-init g c =
    put-none (frame_line c.args.word.now) c.parts.result.0.now c.parts.result.1.now c.args.out.now
    c.parts.ensures.whole c.requires

pub loop-len-preserved : goal.loop-len-preserved
loop-len-preserved g c =
    rw c.split_at.ensures.back
    (put-more (frame_line c.args.word.now) c.parts.result.0.now c.parts.result.1.now c.loop-len.len-index
    c.loop-len.rest.now c.loop-len.invariant c.loop-len-test.true
    (Puts-same (ap (frame_line c.args.word.now) c.split_at.ensures.front) c.put_frame_line.ensures))

pub returns : goal.returns
returns g c =
    let line = frame_line c.args.word.now in
    Puts-same (ap (flat_map line) c.parts.ensures.frames)
    (put-all line c.parts.result.0.now c.parts.result.1.now c.loop-len.len-index c.loop-len.rest.now
    c.loop-len.invariant c.loop-len-test.false)
