use Rattle.std.proofs.Common.{◌+◌, ◌*◌, slice_set, ap, ◌∙◌}
use Rattle.air_share.specs.LaneRuns.{lane_step}
use Rattle.air_share.specs.Lanes.{after_telling, lane_at, with_debt}
use Rattle.air_share.proofs.lane.told.Goals as goal

pub returns-clause-after : goal.returns-clause-after
unfolding after_telling
returns-clause-after c =
    let lane = lane_at c.args.lanes.now c.args.place in
    ap (λ debt. slice_set c.args.lanes.now c.args.place (with_debt debt lane))
    (c.in-Some.ensures.1 ∙ ap (λ used. lane.debt + used)
    (ap (λ scale. scale * c.from-2.result) c.from.ensures ∙ ap (λ more. lane.scale * more) c.from-2.ensures))

pub returns-clause-event : goal.returns-clause-event
unfolding lane_step after_telling
returns-clause-event c =
    let lane = lane_at c.args.lanes.now c.args.place in
    ap (λ debt. slice_set c.args.lanes.now c.args.place (with_debt debt lane))
    (c.in-Some.ensures.1 ∙ ap (λ used. lane.debt + used)
    (ap (λ scale. scale * c.from-2.result) c.from.ensures ∙ ap (λ more. lane.scale * more) c.from-2.ensures))
