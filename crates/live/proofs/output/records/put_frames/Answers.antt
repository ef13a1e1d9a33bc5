use Rattle.std.proofs.Common.{ap}
use Rattle.live.specs.AnswerOctets.{record_of}
use Rattle.text_io.specs.BufferLaws.{Puts-nothing, Puts-item, Puts-items, Puts-same}
use Rattle.live.proofs.output.records.put_frames.Goals as goal

pub loop-frame-init : goal.loop-frame-init
loop-frame-init g c = Puts-nothing _ c.requires

pub put_record-requires : goal.put_record-requires
put_record-requires g c = c.loop-frame.invariant.can_write

pub loop-frame-preserved : goal.loop-frame-preserved
loop-frame-preserved g c =
    let r = record_of c.args.kind c.args.bssid in
    Puts-item r c.args.frames.now c.loop-frame.frame-index c.frame-item.result c.loop-frame-test.true
    c.frame-item.is
    c.loop-frame.invariant
    (Puts-same (ap r c.as_slice.ensures) c.put_record.ensures)

pub returns : goal.returns
returns g c =
    Puts-items (record_of c.args.kind c.args.bssid) c.args.frames.now c.loop-frame.frame-index
    c.loop-frame-test.false
    c.loop-frame.invariant
