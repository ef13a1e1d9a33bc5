use Rattle.std.proofs.Common.{◌<◌, length, get_or, ◌∙◌, ap, arith}
use lib.ListN.{set}
use Rattle.std.proofs.lemmas.List.{get_or_default}
use Rattle.std.proofs.lemmas.List.Edits.{map_over_more}
use Rattle.downlink.specs.declared.frame.Frame.{Frame}
use Rattle.downlink.specs.Receiver.{sent_another_way}
use Rattle.downlink.proofs.Firsts.{no_frame}
use Rattle.downlink.proofs.receiver.send_another_way.Goals as goal

pub loop-frame-preserved : goal.loop-frame-preserved
loop-frame-preserved c =
    let here : c.loop-frame.frame-index < length c.loop-frame.frames = omega arith in
    let frame : Frame = get_or c.loop-frame.frames c.loop-frame.frame-index no_frame in
    ap (λ (f : Frame). set c.loop-frame.frames c.loop-frame.frame-index f) c.sent_another_way.ensures
    ∙ map_over_more (sent_another_way c.args.way) c.args.frames.now c.loop-frame.frames c.loop-frame.frame-index frame
    c.loop-frame-test.true c.loop-frame.invariant (get_or_default c.loop-frame.frames c.loop-frame.frame-index no_frame frame here)
