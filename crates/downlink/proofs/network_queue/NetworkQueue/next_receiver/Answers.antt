use Rattle.std.proofs.Common.{◌∙◌, zero, Bool, None, sym, ap, subst}
use Rattle.std.proofs.Common.{length, IfSome, ◌<◌}
use Rattle.std.specs.Prelude.{if◌then◌else◌}
use Rattle.downlink.specs.Networks.{Network, first_from, or_else, turn_of}
use Rattle.downlink.proofs.Turns.{first_by_bits, turn_by_bits, within_by_bits, turn_within}
use Rattle.downlink.proofs.network_queue.NetworkQueue.next_receiver.Goals as goal

pub returns-in-Some-clause-turn : goal.returns-in-Some-clause-turn
returns-in-Some-clause-turn c =
    let words = c.self.inside.ready.words.items in
    let receivers = c.self.inside.receivers.items in
    let from = c.self.inside.from in
    sym (ap (λ o. or_else o (first_from zero receivers))
    (first_by_bits words receivers from c.in-Some.receiver c.self.invariant c.in-Some.ensures.found))
    ∙ ap (λ (b : Bool). if b then None else or_else (first_from from receivers) (first_from zero receivers)) (sym c.if-self.false)
    ∙ ap turn_of c.self.view_is

pub returns-in-Some-clause-there : goal.returns-in-Some-clause-there
returns-in-Some-clause-there c =
    subst (λ (n : Network). c.in-Some.receiver < length n.receivers) c.self.view_is
    (within_by_bits c.self.inside.ready.words.items c.self.inside.receivers.items c.self.inside.from c.in-Some.receiver c.self.invariant
    c.in-Some.ensures.found)

pub returns-in-None-clause-turn : goal.returns-in-None-clause-turn
returns-in-None-clause-turn c =
    let receivers = c.self.inside.receivers.items in
    let from = c.self.inside.from in
    turn_by_bits c.self.inside.ready.words.items receivers from c.first_from-in-None.result c.self.invariant
    c.in-None.ensures.none c.first_from-in-None.ensures.found c.first_from-in-None.ensures.none
    ∙ ap (λ (b : Bool). if b then None else or_else (first_from from receivers) (first_from zero receivers)) (sym c.if-self.false)
    ∙ ap turn_of c.self.view_is

pub returns-in-None-clause-there : goal.returns-in-None-clause-there
returns-in-None-clause-there c =
    subst (λ (n : Network). IfSome c.first_from-in-None.result (λ receiver. receiver < length n.receivers)) c.self.view_is
    (turn_within c.self.inside.ready.words.items c.self.inside.receivers.items c.first_from-in-None.result c.self.invariant
    c.first_from-in-None.ensures.found)
