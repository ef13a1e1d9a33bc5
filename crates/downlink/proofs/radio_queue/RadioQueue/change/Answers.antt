use Rattle.std.proofs.Common.{is_some, ◌≡◌, List, length, sym, ap, ◌∙◌, arith}
use Rattle.std.specs.Vec.{with_items}
use Rattle.std.proofs.lemmas.List.{with_items_is}
use Rattle.air_share.specs.declared.lane.Lane.{Lane}
use Rattle.air_share.specs.LaneRuns.{Waits, lane_step}
use Rattle.downlink.specs.Networks.{has_next, To}
use Rattle.downlink.specs.Calls.{call_of}
use Rattle.downlink.specs.Radios.{Radio, receiver_at, Of, radio_step}
use Rattle.downlink.proofs.RadioSteps.{named_step, present}
use Rattle.downlink.proofs.radio_queue.RadioQueue.change.Goals as goal

pub returns-clause-after : goal.returns-clause-after
returns-clause-after c =
    let lanes : List Lane = c.self.inside.lanes.items in
    let before : Radio = record { lanes = lanes; networks = c.self.inside.networks.items } in
    let after : List Lane = (with_items c.self.inside.lanes c.set_waits.new.lanes).items in
    let set : after ≡ lane_step lanes (Waits c.args.network (has_next c.change-is_there.new.self)) =
    with_items_is c.self.inside.lanes c.set_waits.new.lanes
    (omega (arith, c.set_waits.auto.lanes, ap length c.as_mut_slice.ensures.value, c.self.inside.lanes.ok))
    ∙ c.set_waits.ensures ∙ ap (λ ls. lane_step ls (Waits c.args.network c.has_next-waits.result)) c.as_mut_slice.ensures.value
    ∙ ap (λ waits. lane_step lanes (Waits c.args.network waits)) c.has_next-waits.ensures in
    named_step before c.args.network c.index_mut-queue.result.now c.change-is_there.new.self (To c.args.receiver (call_of c.args.change)) after
    (omega arith) c.index_mut-queue.ensures.value c.change-is_there.ensures.after set
    ∙ ap (λ r. radio_step r (Of c.args.network c.args.receiver (call_of c.args.change))) c.self.view_is

pub returns-clause-there : goal.returns-clause-there
returns-clause-there c =
    let before : Radio = record { lanes = c.self.inside.lanes.items; networks = c.self.inside.networks.items } in
    let there = present before c.args.network c.args.receiver c.index_mut-queue.result.now (omega arith) c.index_mut-queue.ensures.value in
    let same = ap (λ r. is_some (receiver_at r c.args.network c.args.receiver)) c.self.view_is in (
      λ e. sym same ∙ there.0 (c.change-is_there.ensures.there.0 e),
      λ e. c.change-is_there.ensures.there.1 (there.1 (same ∙ e)),
    )
