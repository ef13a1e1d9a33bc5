use Rattle.ap_config.specs.Places.{setting_at}
use Rattle.bss_core.specs.RadioView.{RadioView, view_at}
use Rattle.replay.proofs.TakeSteps.{took_drained, on_ok_both}
use Rattle.replay.proofs.model.drained_radio.DrainedRadio.take_event.Goals as goal

pub returns-in-Ok : goal.returns-in-Ok
returns-in-Ok c =
    let r : RadioView = c.args.self.now.radio in
    on_ok_both c.drain.result
    (λ radio sent. took_drained r c.args.self.now.sent c.args.place c.args.event c.take.new.self c.drain.new.self.radio c.drain.new.self.sent
    c.requires.drained c.requires.there c.in-Ok.ensures.room c.in-Ok.ensures.after radio sent
    (c.sent_frames.ensures (setting_at r.config c.args.place) (view_at r c.args.place).history c.args.event))
    c.drain.ensures.radio c.drain.ensures.sent
