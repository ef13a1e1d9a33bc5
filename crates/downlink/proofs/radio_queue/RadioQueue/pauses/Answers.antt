use Rattle.std.proofs.Common.{◌≡◌, List, length, ap, ◌∙◌, arith}
use Rattle.std.specs.Vec.{with_items}
use Rattle.std.proofs.lemmas.List.{with_items_is}
use Rattle.air_share.specs.declared.lane.Lane.{Lane}
use Rattle.air_share.specs.LaneRuns.{Waits, lane_step}
use Rattle.downlink.specs.Networks.{has_next, Pauses as NetworkPauses}
use Rattle.downlink.specs.Radios.{Radio, Pauses, radio_step}
use Rattle.downlink.proofs.RadioSteps.{named_step}
use Rattle.downlink.proofs.radio_queue.RadioQueue.pauses.Goals as goal

pub returns-clause-after : goal.returns-clause-after
returns-clause-after c =
    let lanes : List Lane = c.self.inside.lanes.items in
    let before : Radio = record { lanes = lanes; networks = c.self.inside.networks.items } in
    let after : List Lane = (with_items c.self.inside.lanes c.set_waits.new.lanes).items in
    let set : after ≡ lane_step lanes (Waits c.args.network (has_next c.pauses.new.self)) =
    with_items_is c.self.inside.lanes c.set_waits.new.lanes
    (omega (arith, c.set_waits.auto.lanes, ap length c.as_mut_slice.ensures.value, c.self.inside.lanes.ok))
    ∙ c.set_waits.ensures ∙ ap (λ ls. lane_step ls (Waits c.args.network c.has_next-waits.result)) c.as_mut_slice.ensures.value
    ∙ ap (λ waits. lane_step lanes (Waits c.args.network waits)) c.has_next-waits.ensures in
    named_step before c.args.network c.index_mut-queue.result.now c.pauses.new.self (NetworkPauses c.args.is_paused) after
    (omega arith) c.index_mut-queue.ensures.value c.pauses.ensures set
    ∙ ap (λ r. radio_step r (Pauses c.args.network c.args.is_paused)) c.self.view_is
