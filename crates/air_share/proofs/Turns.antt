-- What a turn makes of the lanes.
use Rattle.std.proofs.Common.{◌≡◌, ℕ, ◌*◌, ◌<◌, List, length, map, set, Some, sym, ap, ◌∙◌}
use Rattle.std.proofs.lemmas.List.{get_or-map}
use Rattle.air_share.specs.declared.lane.Lane.{Lane}
use Rattle.air_share.specs.Lanes.{lane_at, no_lane, lowered, with_debt, after_turn, chosen}
use Rattle.air_share.specs.LaneRuns.{Serve, lane_step, after_choice}
use Rattle.air_share.proofs.Lists.{mapped_first, mapped_first-all}

-- where all debts are lowered and then one is set
pub charged : (before lanes : List Lane) (place n cost : ℕ) → place < length before → n ≡ length before
    → lanes ≡ mapped_first (lowered (lane_at before place).debt) n before
    → set lanes place (with_debt ((lane_at lanes place).scale * cost) (lane_at lanes place)) ≡ after_turn before place cost
unfolding after_turn
charged before lanes place n cost within all e =
    let by : ℕ = (lane_at before place).debt in
    let whole : lanes ≡ map (lowered by) before =
    e ∙ ap (λ k. mapped_first (lowered by) k before) all ∙ mapped_first-all (lowered by) before in
    ap (λ ys. set ys place (with_debt ((lane_at ys place).scale * cost) (lane_at ys place))) whole
    ∙ ap (λ lane. set (map (lowered by) before) place (with_debt (lane.scale * cost) lane))
    (get_or-map (lowered by) before place no_lane no_lane within)

-- the turn of the lane that is chosen is the event of a turn
pub turn_is_event : (lanes : List Lane) (place cost : ℕ) → chosen lanes ≡ Some place
    → after_turn lanes place cost ≡ lane_step lanes (Serve cost)
unfolding lane_step
turn_is_event lanes place cost e = ap (after_choice lanes cost) (sym e)
