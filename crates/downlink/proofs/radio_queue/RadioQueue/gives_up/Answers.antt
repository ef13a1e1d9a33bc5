use Rattle.std.proofs.Common.{◌≡◌, List, length, ap, ◌∙◌, arith}
use Rattle.std.specs.Vec.{with_items}
use Rattle.std.proofs.lemmas.List.{with_items_is}
use Rattle.air_share.specs.declared.lane.Lane.{Lane}
use Rattle.air_share.specs.LaneRuns.{Waits, lane_step}
use Rattle.downlink.specs.Networks.{has_next, To}
use Rattle.downlink.specs.Calls.{GivesUp}
use Rattle.downlink.specs.Radios.{Radio, Of, radio_step, radio_answer, network_answer_of}
use Rattle.std.specs.Option.{option_map}
use Rattle.downlink.proofs.RadioSteps.{named_step, named_answer}
use Rattle.downlink.proofs.radio_queue.RadioQueue.gives_up.Goals as goal

pub returns-clause-after : goal.returns-clause-after
returns-clause-after c =
    let lanes : List Lane = c.self.inside.lanes.items in
    let before : Radio = record { lanes = lanes; networks = c.self.inside.networks.items } in
    let after : List Lane = (with_items c.self.inside.lanes c.set_waits.new.lanes).items in
    let set : after ≡ lane_step lanes (Waits c.args.network (has_next c.gives_up-answer.new.self)) =
    with_items_is c.self.inside.lanes c.set_waits.new.lanes
    (omega (arith, c.set_waits.auto.lanes, ap length c.as_mut_slice.ensures.value, c.self.inside.lanes.ok))
    ∙ c.set_waits.ensures ∙ ap (λ ls. lane_step ls (Waits c.args.network c.has_next-waits.result)) c.as_mut_slice.ensures.value
    ∙ ap (λ waits. lane_step lanes (Waits c.args.network waits)) c.has_next-waits.ensures in
    named_step before c.args.network c.index_mut-queue.result.now c.gives_up-answer.new.self (To c.args.receiver GivesUp) after
    (omega arith) c.index_mut-queue.ensures.value c.gives_up-answer.ensures.after set
    ∙ ap (λ r. radio_step r (Of c.args.network c.args.receiver GivesUp)) c.self.view_is

pub returns-clause-answer : goal.returns-clause-answer
returns-clause-answer c =
    let before : Radio = record { lanes = c.self.inside.lanes.items; networks = c.self.inside.networks.items } in
    c.answer_from.ensures
    ∙ named_answer before c.args.network c.index_mut-queue.result.now (To c.args.receiver GivesUp) c.gives_up-answer.result
    (omega arith) c.index_mut-queue.ensures.value c.gives_up-answer.ensures.answer
    ∙ ap (λ r. option_map network_answer_of (radio_answer r (Of c.args.network c.args.receiver GivesUp))) c.self.view_is
