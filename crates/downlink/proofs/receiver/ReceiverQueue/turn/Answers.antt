use Rattle.std.proofs.Common.{◌≡◌, true, length, Some, sym, ap, ◌∙◌, arith}
use Rattle.std.specs.Option.{option_to_list}
use Rattle.downlink.specs.Receiver.{Queue, takes_way, first_by}
use Rattle.downlink.proofs.Room.{next_taken}
use Rattle.downlink.proofs.receiver.ReceiverQueue.turn.Goals as goal

pub invariant_of-self : goal.invariant_of-self
invariant_of-self c =
    omega (
      arith,
      c.self.invariant,
      next_taken (takes_way true) c.self.inside.again c.self.inside.waiting.items,
      ap length c.remove_by.ensures.waiting,
      ap (λ again. length (option_to_list again)) c.remove_by.ensures.again,
    )

pub invariant_of-self-2 : goal.invariant_of-self-2
invariant_of-self-2 c =
    let went : first_by (takes_way true) c.self.inside.again c.self.inside.waiting.items ≡ Some c.in_ok-sent.sent =
    ap (λ (q : Queue). first_by (takes_way true) q.again q.waiting) c.self.view_is ∙ sym c.next_by.ensures ∙ c.in_ok-sent.was in
    omega (
      arith,
      c.self.invariant,
      next_taken (takes_way true) c.self.inside.again c.self.inside.waiting.items,
      ap length c.remove_by-2.ensures.waiting,
      ap (λ again. length (option_to_list again)) c.remove_by-2.ensures.again,
      ap (λ sent. length (option_to_list sent)) went,
      ap length c.push_reserved.ensures.items,
      c.push_reserved.ensures.capacity,
    )
