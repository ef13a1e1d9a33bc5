use Rattle.std.proofs.Common.{arith}
use Rattle.bss_core.specs.RadioView.{radio_of}
use Rattle.bss_core.proofs.RadioKeeps.{sound-left}
use Rattle.bss_core.proofs.radio.Radio.leave.Goals as goal

pub invariant_of-self : goal.invariant_of-self
invariant_of-self c =
    let r = c.self.inside in
    (sound-left (record { append = c.own_frames.ensures.append; same = c.own_frames.ensures.same; other = c.own_frames.ensures.other; sent = c.sent_frames.ensures }) (radio_of r.channel r.interval r.capacity r.networks.items r.queue.items) c.pop_front.result c.pop_front.new.self.items c.pop_front.ensures.items c.self.invariant.0, c.self.invariant.1, omega (arith, c.self.invariant.2, c.pop_front.ensures.capacity))
