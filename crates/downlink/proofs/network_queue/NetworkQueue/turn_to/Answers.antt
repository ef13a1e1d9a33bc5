use Rattle.std.proofs.Common.{◌∙◌, ap, arith}
use Rattle.std.specs.Option.{option_map}
use Rattle.downlink.specs.Calls.{Turn}
use Rattle.downlink.specs.Networks.{Network, To, network_step, network_answer, receiver_answer}
use Rattle.downlink.proofs.NetworkSteps.{named_step, named_answer}
use Rattle.downlink.proofs.Turns.{ready_set}
use Rattle.downlink.proofs.network_queue.NetworkQueue.turn_to.Goals as goal

pub invariant_of-self : goal.invariant_of-self
invariant_of-self c =
    ready_set c.self.inside.ready.words.items c.set.new.self.words.items c.self.inside.receivers.items c.args.receiver c.turn-next.new.self
    c.may_go.result c.self.invariant (omega arith) c.may_go.ensures c.set.ensures.room c.set.ensures.bits

pub returns-clause-after : goal.returns-clause-after
returns-clause-after c =
    let before : Network = record { receivers = c.self.inside.receivers.items; from = c.self.inside.from; is_paused = c.self.inside.is_paused } in
    named_step before c.args.receiver (Turn c.args.now) c.index_mut-queue.result.now c.turn-next.new.self (omega arith) c.index_mut-queue.ensures.value
    c.turn-next.ensures.after ∙ ap (λ n. network_step n (To c.args.receiver (Turn c.args.now))) c.self.view_is

pub returns-clause-answer : goal.returns-clause-answer
returns-clause-answer c =
    let before : Network = record { receivers = c.self.inside.receivers.items; from = c.self.inside.from; is_paused = c.self.inside.is_paused } in
    c.told_of.ensures
    ∙ named_answer before c.args.receiver (Turn c.args.now) c.index_mut-queue.result.now c.turn-next.result (omega arith) c.index_mut-queue.ensures.value
    c.turn-next.ensures.answer ∙ ap (λ n. option_map receiver_answer (network_answer n (To c.args.receiver (Turn c.args.now)))) c.self.view_is
