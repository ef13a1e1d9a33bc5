use Rattle.std.proofs.Common.{◌<◌, ℕ, length, set, sym, ap, ◌∙◌, subst}
use Rattle.std.specs.Option.{option_map}
use Rattle.downlink.specs.Networks.{Network, TurnOfOne, turn_of, network_step, network_answer, receiver_answer}
use Rattle.downlink.proofs.NetworkSteps.{turned}
use Rattle.downlink.proofs.Turns.{ready_set}
use Rattle.downlink.proofs.network_queue.NetworkQueue.turn.Goals as goal

pub invariant_of-self : goal.invariant_of-self
invariant_of-self c =
    let receiver = c.in_ok-receiver.receiver in
    let within : receiver < length c.self.inside.receivers.items =
    subst (λ (n : Network). receiver < length n.receivers) (sym c.self.view_is) c.in_ok-receiver.ensures.there in
    ready_set c.self.inside.ready.words.items c.set.new.self.words.items c.self.inside.receivers.items receiver c.turn-next.new.self
    c.may_go.result c.self.invariant within c.may_go.ensures c.set.ensures.room c.set.ensures.bits

pub returns-clause-after : goal.returns-clause-after
returns-clause-after c =
    let receiver = c.in_ok-receiver.receiver in
    let before : Network = record { receivers = c.self.inside.receivers.items; from = c.self.inside.from; is_paused = c.self.inside.is_paused } in
    let within : receiver < length before.receivers =
    subst (λ (n : Network). receiver < length n.receivers) (sym c.self.view_is) c.in_ok-receiver.ensures.there in
    ap (λ (from : ℕ). let it : Network = record { receivers = set before.receivers receiver c.turn-next.new.self; from = from; is_paused = before.is_paused } in it) c.from_after-self-inside.ensures
    ∙ (turned before receiver c.args.now c.index_mut-queue.result.now c.turn-next.new.self c.turn-next.result
    (c.in_ok-receiver.ensures.turn ∙ ap turn_of (sym c.self.view_is)) within c.index_mut-queue.ensures.value c.turn-next.ensures.after
    c.turn-next.ensures.answer).0
    ∙ ap (λ n. network_step n (TurnOfOne c.args.now)) c.self.view_is

pub returns-clause-answer : goal.returns-clause-answer
returns-clause-answer c =
    let receiver = c.in_ok-receiver.receiver in
    let before : Network = record { receivers = c.self.inside.receivers.items; from = c.self.inside.from; is_paused = c.self.inside.is_paused } in
    let within : receiver < length before.receivers =
    subst (λ (n : Network). receiver < length n.receivers) (sym c.self.view_is) c.in_ok-receiver.ensures.there in
    c.told_of.ensures
    ∙ (turned before receiver c.args.now c.index_mut-queue.result.now c.turn-next.new.self c.turn-next.result
    (c.in_ok-receiver.ensures.turn ∙ ap turn_of (sym c.self.view_is)) within c.index_mut-queue.ensures.value c.turn-next.ensures.after
    c.turn-next.ensures.answer).1
    ∙ ap (λ n. option_map receiver_answer (network_answer n (TurnOfOne c.args.now))) c.self.view_is
