use Rattle.std.proofs.Common.{◌≡◌, List, length, ap, ◌∙◌, arith}
use Rattle.std.specs.Vec.{with_items}
use Rattle.std.proofs.lemmas.List.{with_items_is}
use Rattle.air_share.specs.declared.lane.Lane.{Lane}
use Rattle.air_share.specs.LaneRuns.{Waits, lane_step}
use Rattle.downlink.specs.Networks.{has_next, To}
use Rattle.downlink.specs.Calls.{Comes}
use Rattle.downlink.specs.Radios.{Radio, receiver_at, Of, radio_step, radio_answer, network_answer_of}
use Rattle.std.specs.Option.{option_map}
use Rattle.downlink.proofs.RadioSteps.{named_step, named_answer, missing, not_err}
use Rattle.downlink.proofs.radio_queue.RadioQueue.comes.Goals as goal

pub returns-clause-after : goal.returns-clause-after
returns-clause-after c =
    let lanes : List Lane = c.self.inside.lanes.items in
    let before : Radio = record { lanes = lanes; networks = c.self.inside.networks.items } in
    let after : List Lane = (with_items c.self.inside.lanes c.set_waits.new.lanes).items in
    let set : after ≡ lane_step lanes (Waits c.args.network (has_next c.comes.new.self)) =
    with_items_is c.self.inside.lanes c.set_waits.new.lanes
    (omega (arith, c.set_waits.auto.lanes, ap length c.as_mut_slice.ensures.value, c.self.inside.lanes.ok))
    ∙ c.set_waits.ensures ∙ ap (λ ls. lane_step ls (Waits c.args.network c.has_next-waits.result)) c.as_mut_slice.ensures.value
    ∙ ap (λ waits. lane_step lanes (Waits c.args.network waits)) c.has_next-waits.ensures in
    named_step before c.args.network c.index_mut-queue.result.now c.comes.new.self (To c.args.receiver (Comes c.args.ticket c.args.is_unit c.args.until c.args.now)) after
    (omega arith) c.index_mut-queue.ensures.value c.in-Ok.ensures.after set
    ∙ ap (λ r. radio_step r (Of c.args.network c.args.receiver (Comes c.args.ticket c.args.is_unit c.args.until c.args.now))) c.self.view_is

pub returns-clause-answer : goal.returns-clause-answer
returns-clause-answer c =
    let before : Radio = record { lanes = c.self.inside.lanes.items; networks = c.self.inside.networks.items } in
    c.answer_from.ensures
    ∙ named_answer before c.args.network c.index_mut-queue.result.now (To c.args.receiver (Comes c.args.ticket c.args.is_unit c.args.until c.args.now)) c.in-Ok.dropped
    (omega arith) c.index_mut-queue.ensures.value c.in-Ok.ensures.answer
    ∙ ap (λ r. option_map network_answer_of (radio_answer r (Of c.args.network c.args.receiver (Comes c.args.ticket c.args.is_unit c.args.until c.args.now)))) c.self.view_is

pub returns-clause-there : goal.returns-clause-there
returns-clause-there c =
    let before : Radio = record { lanes = c.self.inside.lanes.items; networks = c.self.inside.networks.items } in (
      λ e. absurd (not_err _ _ e),
      λ e. absurd (not_err _ _ (c.in-Ok.ensures.there.1
          (missing before c.args.network c.args.receiver c.index_mut-queue.result.now (omega arith)
          c.index_mut-queue.ensures.value (ap (λ r. receiver_at r c.args.network c.args.receiver) c.self.view_is ∙ e)))),
    )
