use Rattle.std.proofs.Common.{◌<◌, length, ap, arith}
use Rattle.std.specs.Prelude.{option_to_list}
use Rattle.network.specs.ReceivedEvents.{event_received}
use Rattle.ap_config.specs.declared.setting.Setting.{Setting}
use Rattle.networks.specs.declared.network_with_frames.NetworkWithFrames.{NetworkWithFrames}
use Rattle.networks.proofs.SentSteps.{event-waits, on_ok}
use Rattle.networks.proofs.sending_network.SendingNetwork.take.Goals as goal

pub returns-in-Ok-clause-events : goal.returns-in-Ok-clause-events
returns-in-Ok-clause-events c s es gone h =
    let sent = c.in-Ok.sent in
    let room : length es < s.network.max_events =
    omega (
      arith,
      c.if-events-from.false,
      c.events.ensures,
      c.from.ensures,
      ap (λ (t : Setting). t.network.max_events) c.setting.ensures.setting,
      ap (λ (n : NetworkWithFrames). n.network.setting.network.max_events) h,
      ap (λ (n : NetworkWithFrames). n.network.events) h,
    ) in
    on_ok c.keep.result
    (event-waits (record { next = c.one_step.ensures.next; appends = c.steps_append.ensures }) s es (event_received c.args.event.now) gone c.args.self.now c.keep.new.self c.take_received.new.self sent.air (option_to_list sent.wire)
    h room c.in-Ok.ensures.ok.after c.in-Ok.ensures.ok.air c.in-Ok.ensures.ok.wire c.keep.ensures.network)
    c.keep.ensures.kept
