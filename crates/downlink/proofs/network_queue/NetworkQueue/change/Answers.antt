use Rattle.std.proofs.Common.{◌∙◌, ap, arith}
use Rattle.downlink.specs.Calls.{call_of}
use Rattle.downlink.specs.Networks.{Network, To, network_step}
use Rattle.downlink.proofs.NetworkSteps.{named_step}
use Rattle.downlink.proofs.Turns.{ready_set}
use Rattle.downlink.proofs.network_queue.NetworkQueue.change.Goals as goal

pub invariant_of-self : goal.invariant_of-self
invariant_of-self c =
    ready_set c.self.inside.ready.words.items c.set.new.self.words.items c.self.inside.receivers.items c.args.receiver c.change.new.self
    c.may_go.result c.self.invariant (omega arith) c.may_go.ensures c.set.ensures.room c.set.ensures.bits

pub returns-clause-after : goal.returns-clause-after
returns-clause-after c =
    let before : Network = record { receivers = c.self.inside.receivers.items; from = c.self.inside.from; is_paused = c.self.inside.is_paused } in
    named_step before c.args.receiver (call_of c.args.change) c.index_mut-queue.result.now c.change.new.self (omega arith) c.index_mut-queue.ensures.value
    c.change.ensures ∙ ap (λ n. network_step n (To c.args.receiver (call_of c.args.change))) c.self.view_is
