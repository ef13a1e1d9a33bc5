use Rattle.std.proofs.Common.{◌*◌, slice_set, ap, ◌∙◌, arith}
use Rattle.air_share.specs.Lanes.{lane_at, no_lane, lowered, with_debt}
use Rattle.air_share.proofs.Lists.{mapped_first_next}
use Rattle.air_share.proofs.Turns.{charged, turn_is_event}
use Rattle.air_share.proofs.lane.serve_chosen.Goals as goal

pub loop-lane-preserved : goal.loop-lane-preserved
loop-lane-preserved c =
    rw c.saturating_sub-lane.ensures
    (mapped_first_next (lowered (lane_at c.args.lanes.now c.args.place).debt) c.loop-lane.lane-index c.args.lanes.now
    c.loop-lane.lanes no_lane (omega arith) c.loop-lane.invariant)

pub returns-clause-after : goal.returns-clause-after
returns-clause-after c =
    ap (λ debt. slice_set c.loop-lane.lanes c.args.place (with_debt debt (lane_at c.loop-lane.lanes c.args.place))) (ap (λ scale. scale * c.from-2.result) c.from.ensures ∙ ap (λ cost. (lane_at c.loop-lane.lanes c.args.place).scale * cost) c.from-2.ensures)
    ∙ charged c.args.lanes.now c.loop-lane.lanes c.args.place c.loop-lane.lane-index c.args.cost c.requires.within (omega arith)
    c.loop-lane.invariant

pub returns-clause-event : goal.returns-clause-event
returns-clause-event c =
    ap (λ debt. slice_set c.loop-lane.lanes c.args.place (with_debt debt (lane_at c.loop-lane.lanes c.args.place))) (ap (λ scale. scale * c.from-2.result) c.from.ensures ∙ ap (λ cost. (lane_at c.loop-lane.lanes c.args.place).scale * cost) c.from-2.ensures)
    ∙ charged c.args.lanes.now c.loop-lane.lanes c.args.place c.loop-lane.lane-index c.args.cost c.requires.within (omega arith)
    c.loop-lane.invariant
    ∙ turn_is_event c.args.lanes.now c.args.place c.args.cost c.requires.turn
