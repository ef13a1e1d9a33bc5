use Rattle.std.proofs.Common.{true, length, sym, ap, ◌∙◌, arith}
use Rattle.std.specs.Option.{option_to_list}
use Rattle.downlink.specs.Receiver.{takes_way}
use Rattle.downlink.proofs.Firsts.{none_stays}
use Rattle.downlink.proofs.Room.{next_taken}
use Rattle.downlink.proofs.receiver.ReceiverQueue.gives_up.Goals as goal

pub invariant_of-self : goal.invariant_of-self
invariant_of-self c =
    omega (
      arith,
      c.self.invariant,
      next_taken (takes_way true) c.self.inside.again c.self.inside.waiting.items,
      ap length c.remove_by.ensures.waiting,
      ap (λ again. length (option_to_list again)) c.remove_by.ensures.again,
    )

pub returns-in_err-frame-clause-after : goal.returns-in_err-frame-clause-after
returns-in_err-frame-clause-after c =
    sym (none_stays (takes_way true) c.args.self.now (sym c.next_by.ensures ∙ c.in_err-frame.was))
