use Rattle.std.proofs.Common.{◌≡◌, ◌++◌, [], ◌∷◌, List, length, true, sym, ap, ◌∙◌, arith}
use Rattle.std.specs.Vec.{with_items}
use Rattle.std.specs.Option.{option_map}
use Rattle.std.proofs.lemmas.List.{with_items_is}
use Rattle.air_share.specs.declared.lane.Lane.{Lane}
use Rattle.air_share.specs.Lanes.{chosen}
use Rattle.air_share.specs.LaneRuns.{Waits, lanes_after, is_turn_of}
use Rattle.downlink.specs.Networks.{has_next}
use Rattle.downlink.specs.Radios.{Radio, NextOf, turn_if, radio_step, radio_answer, network_answer_of}
use Rattle.downlink.proofs.RadioSteps.{next_of_step, next_of_answer, turn_there}
use Rattle.downlink.proofs.radio_queue.RadioQueue.next_of.Goals as goal

pub index_mut-queue-requires : goal.index_mut-queue-requires
index_mut-queue-requires c =
    let e : is_turn_of c.args.network c.choose-turn.result ≡ true = sym c.is_turn_of.ensures ∙ c.if-not-is_turn_of.false in
    omega (
      arith,
      turn_there c.as_slice.result.now c.args.network c.choose-turn.result e c.choose-turn.ensures.some,
      ap length c.as_slice.ensures.value,
      c.self.invariant,
    )

pub take_turn-requires-clause-within : goal.take_turn-requires-clause-within
take_turn-requires-clause-within c =
    let e : is_turn_of c.args.network c.choose-turn.result ≡ true = sym c.is_turn_of.ensures ∙ c.if-not-is_turn_of.false in
    omega (
      arith,
      turn_there c.as_slice.result.now c.args.network c.choose-turn.result e c.choose-turn.ensures.some,
      ap length c.as_slice.ensures.value,
      ap length c.as_mut_slice.ensures.value,
    )

pub returns-clause-after : goal.returns-clause-after
returns-clause-after c =
    let lanes : List Lane = c.self.inside.lanes.items in
    let before : Radio = record { lanes = lanes; networks = c.self.inside.networks.items } in
    let place = c.args.network in
    let after : List Lane = (with_items c.self.inside.lanes c.take_turn.new.lanes).items in
    let n' = c.turn_to-next.new.self in
    let e : is_turn_of place c.choose-turn.result ≡ true = sym c.is_turn_of.ensures ∙ c.if-not-is_turn_of.false in
    let set : after ≡ lanes_after lanes (turn_if c.is_sent.result ++ Waits place (has_next n') ∷ []) =
    with_items_is c.self.inside.lanes c.take_turn.new.lanes
    (omega (arith, c.take_turn.auto.lanes, ap length c.as_mut_slice.ensures.value, c.self.inside.lanes.ok))
    ∙ c.take_turn.ensures
    ∙ ap (λ ls. lanes_after ls (turn_if c.is_sent.result ++ Waits place c.has_next-waits.result ∷ [])) c.as_mut_slice.ensures.value
    ∙ ap (λ waits. lanes_after lanes (turn_if c.is_sent.result ++ Waits place waits ∷ [])) c.has_next-waits.ensures in
    next_of_step before place c.args.receiver c.args.now c.index_mut-queue.result.now n' c.turn_to-next.result c.is_sent.result after
    (sym (ap (is_turn_of place) (c.choose-turn.ensures.exact ∙ ap chosen c.as_slice.ensures.value)) ∙ e)
    (omega (arith, turn_there c.as_slice.result.now place c.choose-turn.result e c.choose-turn.ensures.some, ap length c.as_slice.ensures.value, c.self.invariant))
    c.index_mut-queue.ensures.value
    c.turn_to-next.ensures.after c.turn_to-next.ensures.answer c.is_sent.ensures set
    ∙ ap (λ r. radio_step r (NextOf place c.args.receiver c.args.now)) c.self.view_is

pub returns-clause-answer : goal.returns-clause-answer
returns-clause-answer c =
    let before : Radio = record { lanes = c.self.inside.lanes.items; networks = c.self.inside.networks.items } in
    let place = c.args.network in
    let e : is_turn_of place c.choose-turn.result ≡ true = sym c.is_turn_of.ensures ∙ c.if-not-is_turn_of.false in
    c.answer_from.ensures
    ∙ next_of_answer before place c.args.receiver c.args.now c.index_mut-queue.result.now c.turn_to-next.result
    (sym (ap (is_turn_of place) (c.choose-turn.ensures.exact ∙ ap chosen c.as_slice.ensures.value)) ∙ e)
    (omega (arith, turn_there c.as_slice.result.now place c.choose-turn.result e c.choose-turn.ensures.some, ap length c.as_slice.ensures.value, c.self.invariant))
    c.index_mut-queue.ensures.value
    c.turn_to-next.ensures.answer
    ∙ ap (λ r. option_map network_answer_of (radio_answer r (NextOf place c.args.receiver c.args.now))) c.self.view_is
