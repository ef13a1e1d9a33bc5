-- What a list of events makes of the lanes, and the laws.
use Rattle.std.proofs.Common.{◌≡◌, ℕ, ◌+◌, ◌*◌, ◌≤◌, List, [], ◌∷◌, ◌++◌, refl, ◌∙◌, arith}
use Rattle.std.proofs.Math.Nat.{mul-le-mul_left}
use Rattle.air_share.specs.declared.lane.Lane.{Lane}
use Rattle.air_share.specs.LaneRuns.{LaneEvent, lane_step, lanes_after, air_of, WaitsThroughout, IsPassedOver, turn_after, IsWithin, IsExact, IsBounded, IsSoon}
use Rattle.air_share.proofs.Steps.{debt_at, scale_at, scale-step, forgiven_by, step_le, step_ge, step_within, step_passed}

-- events leave every scale
pub scale-after : (lanes : List Lane) (events : List LaneEvent) (k : ℕ) → scale_at (lanes_after lanes events) k ≡ scale_at lanes k
scale-after lanes [] k = refl
scale-after lanes (event ∷ events) k = scale-after (lane_step lanes event) events k ∙ scale-step lanes event k

pub lanes_after-append : (lanes : List Lane) (past events : List LaneEvent)
    → lanes_after lanes (past ++ events) ≡ lanes_after (lanes_after lanes past) events
lanes_after-append lanes [] events = refl
lanes_after-append lanes (event ∷ past) events = lanes_after-append (lane_step lanes event) past events

-- what every lane is forgiven by a list of events
forgiven : List Lane → List LaneEvent → ℕ
forgiven lanes [] = 0
forgiven lanes (event ∷ events) = forgiven_by lanes event + forgiven (lane_step lanes event) events

run_le : (lanes : List Lane) (events : List LaneEvent) (k : ℕ)
    → debt_at lanes k + scale_at lanes k * air_of k lanes events
    ≤ debt_at (lanes_after lanes events) k + forgiven lanes events
unfolding forgiven
run_le lanes [] k = omega arith
run_le lanes (event ∷ events) k =
    let one = step_le lanes event k in
    let rest = rw (scale-step lanes event k) at (run_le (lane_step lanes event) events k) in
    omega (arith, one, rest)

run_ge : (lanes : List Lane) (events : List LaneEvent) (k : ℕ) → WaitsThroughout k lanes events
    → debt_at (lanes_after lanes events) k + forgiven lanes events
    ≤ debt_at lanes k + scale_at lanes k * air_of k lanes events
unfolding forgiven
run_ge lanes [] k w = omega arith
run_ge lanes (event ∷ events) k w =
    let one = step_ge lanes event k w.0 in
    let rest = rw (scale-step lanes event k) at (run_ge (lane_step lanes event) events k w.1) in
    omega (arith, one, rest)

pub is_exact : IsExact
is_exact lanes events b c w = omega (arith, run_le lanes events c, run_ge lanes events b w)

-- ---- turns within limits

first_within : (lanes : List Lane) (events : List LaneEvent) (k limit turn : ℕ) → IsWithin k limit lanes turn events
    → turn ≤ limit
first_within lanes [] k limit turn h = h
first_within lanes (event ∷ events) k limit turn h = h.0

-- a network owes no more than a turn of it costs, where its turns keep within a limit
run_within : (lanes : List Lane) (events : List LaneEvent) (k limit turn : ℕ) → debt_at lanes k ≤ scale_at lanes k * turn
    → IsWithin k limit lanes turn events → debt_at (lanes_after lanes events) k ≤ scale_at lanes k * limit
run_within lanes [] k limit turn d h = omega (arith, d, mul-le-mul_left (scale_at lanes k) h)
run_within lanes (event ∷ events) k limit turn d h =
    rw (scale-step lanes event k) at (run_within (lane_step lanes event) events k limit (turn_after k lanes turn event)
    (rw (scale-step lanes event k) (step_within lanes event k turn d)) h.1)

-- the latest turn when a part of the events has passed
split_within : (lanes : List Lane) (past events : List LaneEvent) (k limit turn : ℕ)
    → debt_at lanes k ≤ scale_at lanes k * turn → IsWithin k limit lanes turn (past ++ events)
    → (latest : ℕ) × (debt_at (lanes_after lanes past) k ≤ scale_at lanes k * latest)
    × IsWithin k limit (lanes_after lanes past) latest events
split_within lanes [] events k limit turn d h = (turn, d, h)
split_within lanes (event ∷ past) events k limit turn d h =
    let rest = split_within (lane_step lanes event) past events k limit (turn_after k lanes turn event)
    (rw (scale-step lanes event k) (step_within lanes event k turn d)) h.1 in
    (rest.0, rw (scale-step lanes event k) at rest.1, rest.2)

-- while it is the turn of others, the latest turn grows by what is told of it
passed_within : (lanes : List Lane) (events : List LaneEvent) (k limit turn : ℕ) → IsPassedOver k lanes events
    → IsWithin k limit lanes turn events → turn + air_of k lanes events ≤ limit
passed_within lanes [] k limit turn p h = omega (arith, h)
passed_within lanes (event ∷ events) k limit turn p h =
    let rest = passed_within (lane_step lanes event) events k limit (turn_after k lanes turn event) p.1 h.1 in
    omega (arith, step_passed lanes event k turn p.0, rest)

pub is_bounded : IsBounded
is_bounded lanes past events b c limit_b limit_c none within_b within_c w =
    let now : List Lane = lanes_after lanes past in
    let of_b = split_within lanes past events b limit_b 0 (omega (arith, none b)) within_b in
    let of_c = split_within lanes past events c limit_c 0 (omega (arith, none c)) within_c in
    let most_b = mul-le-mul_left (scale_at lanes b) (first_within now events b limit_b of_b.0 of_b.2) in
    let end_c = rw (scale-after lanes past c) at
    (run_within now events c limit_c of_c.0 (rw (scale-after lanes past c) of_c.1) of_c.2) in
    let all_c = rw (scale-after lanes past c) at (run_le now events c) in
    let all_b = rw (scale-after lanes past b) at (run_ge now events b w) in
    omega (arith, of_b.1, most_b, end_c, all_c, all_b)

pub is_soon : IsSoon
is_soon lanes past events b c limit_b limit_c none within_b within_c w passed =
    let now : List Lane = lanes_after lanes past in
    let of_b = split_within lanes past events b limit_b 0 (omega (arith, none b)) within_b in
    let of_c = split_within lanes past events c limit_c 0 (omega (arith, none c)) within_c in
    let most_b = mul-le-mul_left (scale_at lanes b) (passed_within now events b limit_b of_b.0 passed of_b.2) in
    let end_c = rw (scale-after lanes past c) at
    (run_within now events c limit_c of_c.0 (rw (scale-after lanes past c) of_c.1) of_c.2) in
    let all_c = rw (scale-after lanes past c) at (run_le now events c) in
    let all_b = rw (scale-after lanes past b) at (run_ge now events b w) in
    omega (arith, of_b.1, most_b, end_c, all_c, all_b)
