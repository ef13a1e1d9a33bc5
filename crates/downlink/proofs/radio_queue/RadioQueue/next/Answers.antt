use Rattle.std.proofs.Common.{◌≡◌, ◌++◌, [], ◌∷◌, List, length, ap, ◌∙◌, arith}
use Rattle.std.specs.Vec.{with_items}
use Rattle.std.specs.Option.{option_map}
use Rattle.std.proofs.lemmas.List.{with_items_is}
use Rattle.air_share.specs.declared.lane.Lane.{Lane}
use Rattle.air_share.specs.Lanes.{chosen}
use Rattle.air_share.specs.LaneRuns.{Waits, lanes_after}
use Rattle.downlink.specs.Networks.{has_next}
use Rattle.downlink.specs.Radios.{Radio, Next, turn_if, radio_step, radio_answer, network_answer_of}
use Rattle.downlink.proofs.RadioSteps.{next_step, next_answer, waits_there}
use Rattle.downlink.proofs.radio_queue.RadioQueue.next.Goals as goal

pub returns-clause-after : goal.returns-clause-after
returns-clause-after c =
    let lanes : List Lane = c.self.inside.lanes.items in
    let before : Radio = record { lanes = lanes; networks = c.self.inside.networks.items } in
    let place = c.in_ok-network.network in
    let after : List Lane = (with_items c.self.inside.lanes c.take_turn.new.lanes).items in
    let n' = c.turn-next.new.self in
    let set : after ≡ lanes_after lanes (turn_if c.is_sent.result ++ Waits place (has_next n') ∷ []) =
    with_items_is c.self.inside.lanes c.take_turn.new.lanes
    (omega (arith, c.take_turn.auto.lanes, ap length c.as_mut_slice.ensures.value, c.self.inside.lanes.ok))
    ∙ c.take_turn.ensures
    ∙ ap (λ ls. lanes_after ls (turn_if c.is_sent.result ++ Waits place c.has_next-waits.result ∷ [])) c.as_mut_slice.ensures.value
    ∙ ap (λ waits. lanes_after lanes (turn_if c.is_sent.result ++ Waits place waits ∷ [])) c.has_next-waits.ensures in
    next_step before place c.args.now c.index_mut-queue.result.now n' c.turn-next.result c.is_sent.result after
    (c.in_ok-network.ensures.exact ∙ ap chosen c.as_slice.ensures.value)
    (omega (arith, waits_there c.as_slice.result.now c.in_ok-network.network c.in_ok-network.ensures.some.waits, ap length c.as_slice.ensures.value, c.self.invariant))
    c.index_mut-queue.ensures.value
    c.turn-next.ensures.after c.turn-next.ensures.answer c.is_sent.ensures set
    ∙ ap (λ r. radio_step r (Next c.args.now)) c.self.view_is

pub returns-clause-answer : goal.returns-clause-answer
returns-clause-answer c =
    let before : Radio = record { lanes = c.self.inside.lanes.items; networks = c.self.inside.networks.items } in
    c.answer_from.ensures
    ∙ next_answer before c.in_ok-network.network c.args.now c.index_mut-queue.result.now c.turn-next.result
    (c.in_ok-network.ensures.exact ∙ ap chosen c.as_slice.ensures.value)
    (omega (arith, waits_there c.as_slice.result.now c.in_ok-network.network c.in_ok-network.ensures.some.waits, ap length c.as_slice.ensures.value, c.self.invariant))
    c.index_mut-queue.ensures.value
    c.turn-next.ensures.answer
    ∙ ap (λ r. option_map network_answer_of (radio_answer r (Next c.args.now))) c.self.view_is
