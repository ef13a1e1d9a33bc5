use Rattle.std.proofs.Common.{◌∙◌, zero, Bool, None, is_some, sym, ap}
use Rattle.std.specs.Prelude.{if◌then◌else◌}
use Rattle.downlink.specs.Networks.{first_from, or_else, has_next}
use Rattle.downlink.proofs.Turns.{has_next_by_bits}
use Rattle.downlink.proofs.network_queue.NetworkQueue.has_next.Goals as goal

pub returns-then-not-self : goal.returns-then-not-self
returns-then-not-self c =
    let receivers = c.self.inside.receivers.items in
    let from = c.self.inside.from in
    c.is_some.ensures
    ∙ has_next_by_bits c.self.inside.ready.words.items receivers from c.first_from.result c.self.invariant
    c.first_from.ensures.found c.first_from.ensures.none
    ∙ ap (λ (b : Bool). is_some (if b then None else or_else (first_from from receivers) (first_from zero receivers))) (sym c.if-not-self.true)
    ∙ ap has_next c.self.view_is
