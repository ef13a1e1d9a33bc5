-- What an event makes of one lane.
use Rattle.std.proofs.Common.{◌≡◌, ◌≢◌, ℕ, zero, suc, ◌+◌, ◌-◌, ◌*◌, ◌<◌, ◌≤◌, true, false, eqb, cond, List, [], ◌∷◌, length, map, set}
use Rattle.std.proofs.Common.{Option, Some, None, refl, sym, ap, ◌∙◌, arith, inl, inr}
use Rattle.std.proofs.lemmas.Bool.{cases_eq, eq-eqb, ne_eqb}
use Rattle.std.proofs.lemmas.List.{get_or-set_same, get_or-set_other, length-map}
use Rattle.air_share.specs.declared.lane.Lane.{Lane}
use Rattle.air_share.specs.Lanes.{lane_at, no_lane, lowered, with_debt, chosen, after_turn, after_telling}
use Rattle.air_share.specs.LaneRuns.{LaneEvent, Waits, Serve, Tell, lane_step, after_choice, air_by, is_turn_of, WaitsForTurn, IsTurnOfOthers, turn_after}
use Rattle.air_share.proofs.Choices.{chosen_gives, waits_within}

abbrev pub debt_at : List Lane → ℕ → ℕ
debt_at lanes place = (lane_at lanes place).debt

abbrev pub scale_at : List Lane → ℕ → ℕ
scale_at lanes place = (lane_at lanes place).scale

-- ---- one lane changes

-- a field that the change leaves as it was stays at every place
field-set : {X : Type 0} (field : Lane → X) (lanes : List Lane) (place : ℕ) (lane : Lane) (k : ℕ)
    → field lane ≡ field (lane_at lanes place) → field (lane_at (set lanes place lane) k) ≡ field (lane_at lanes k)
field-set field [] place lane k e = refl
field-set field (l ∷ lanes) zero lane zero e = e
field-set field (l ∷ lanes) zero lane (suc k) e = refl
field-set field (l ∷ lanes) (suc place) lane zero e = refl
field-set field (l ∷ lanes) (suc place) lane (suc k) e = field-set field lanes place lane k e

debt-lowered : (by : ℕ) (lanes : List Lane) (k : ℕ) → debt_at (map (lowered by) lanes) k ≡ debt_at lanes k - by
debt-lowered by [] k = omega arith
debt-lowered by (l ∷ lanes) zero = refl
debt-lowered by (l ∷ lanes) (suc k) = debt-lowered by lanes k

scale-lowered : (by : ℕ) (lanes : List Lane) (k : ℕ) → scale_at (map (lowered by) lanes) k ≡ scale_at lanes k
scale-lowered by [] k = refl
scale-lowered by (l ∷ lanes) zero = refl
scale-lowered by (l ∷ lanes) (suc k) = scale-lowered by lanes k

-- ---- after a turn

scale-turn : (lanes : List Lane) (place cost k : ℕ) → scale_at (after_turn lanes place cost) k ≡ scale_at lanes k
unfolding after_turn
scale-turn lanes place cost k =
    field-set (λ lane. lane.scale) (map (lowered (debt_at lanes place)) lanes) place _ k
    (sym (scale-lowered (debt_at lanes place) lanes place))
    ∙ scale-lowered (debt_at lanes place) lanes k

debt_of_turn : (lanes : List Lane) (place cost : ℕ) → place < length lanes
    → debt_at (after_turn lanes place cost) place ≡ scale_at lanes place * cost
unfolding after_turn
debt_of_turn lanes place cost within =
    ap (λ lane. lane.debt) (get_or-set_same (map (lowered (debt_at lanes place)) lanes) place
    (with_debt (scale_at lanes place * cost) (lane_at lanes place)) no_lane
    (omega (arith, length-map lanes (lowered (debt_at lanes place)))))

debt_of_others : (lanes : List Lane) (place cost k : ℕ) → k ≢ place
    → debt_at (after_turn lanes place cost) k ≡ debt_at lanes k - debt_at lanes place
unfolding after_turn
debt_of_others lanes place cost k other =
    ap (λ lane. lane.debt) (get_or-set_other (map (lowered (debt_at lanes place)) lanes) place k
    (with_debt (scale_at lanes place * cost) (lane_at lanes place)) no_lane other)
    ∙ debt-lowered (debt_at lanes place) lanes k

-- ---- after telling

debt_of_told : (lanes : List Lane) (place more : ℕ)
    → debt_at (set lanes place (with_debt (debt_at lanes place + scale_at lanes place * more) (lane_at lanes place))) place
    ≡ debt_at lanes place + scale_at lanes place * more
debt_of_told [] place more = omega arith
debt_of_told (l ∷ lanes) zero more = refl
debt_of_told (l ∷ lanes) (suc place) more = debt_of_told lanes place more

debt-telling : (lanes : List Lane) (place more k : ℕ)
    → debt_at (after_telling lanes place more) k ≡ debt_at lanes k + scale_at lanes k * air_by k lanes (Tell place more)
unfolding after_telling air_by
debt-telling lanes place more k =
    elim (cases_eq place k) [
      | inl e ↦ rw (eq-eqb place k e) (rw (← e) (debt_of_told lanes place more))
      | inr ne ↦ rw (ne_eqb place k ne) (
          ap (λ lane. lane.debt) (get_or-set_other lanes place k _ no_lane (λ e. ne (sym e))) ∙ omega arith)
    ]

scale-telling : (lanes : List Lane) (place more k : ℕ) → scale_at (after_telling lanes place more) k ≡ scale_at lanes k
unfolding after_telling
scale-telling lanes place more k = field-set (λ lane. lane.scale) lanes place _ k refl

-- ---- after any event

scale-choice : (lanes : List Lane) (cost : ℕ) (turn : Option ℕ) (k : ℕ)
    → scale_at (after_choice lanes cost turn) k ≡ scale_at lanes k
scale-choice lanes cost None k = refl
scale-choice lanes cost (Some place) k = scale-turn lanes place cost k

-- an event leaves every scale
pub scale-step : (lanes : List Lane) (event : LaneEvent) (k : ℕ) → scale_at (lane_step lanes event) k ≡ scale_at lanes k
unfolding lane_step
scale-step lanes (Waits place waits) k = field-set (λ lane. lane.scale) lanes place _ k refl
scale-step lanes (Serve cost) k = scale-choice lanes cost (chosen lanes) k
scale-step lanes (Tell place more) k = scale-telling lanes place more k

-- what every lane is forgiven by an event: the debt of the one whose turn it is
owed_by : List Lane → Option ℕ → ℕ
owed_by lanes None = 0
owed_by lanes (Some place) = debt_at lanes place

pub forgiven_by : List Lane → LaneEvent → ℕ
forgiven_by lanes (Waits place waits) = 0
forgiven_by lanes (Serve cost) = owed_by lanes (chosen lanes)
forgiven_by lanes (Tell place more) = 0

-- the air that a network gets, times its scale, is what it owes the more and is forgiven, or less
serve_le : (lanes : List Lane) (cost k : ℕ) (turn : Option ℕ) → chosen lanes ≡ turn
    → debt_at lanes k + scale_at lanes k * (cond (is_turn_of k turn) cost 0)
    ≤ debt_at (after_choice lanes cost turn) k + owed_by lanes turn
unfolding owed_by
serve_le lanes cost k None e = omega arith
serve_le lanes cost k (Some place) e =
    elim (cases_eq place k) [
      | inl s ↦ rw (eq-eqb place k s) (rw (← s)
          (omega (arith, debt_of_turn lanes place cost (waits_within lanes place (chosen_gives lanes place e).waits))))
      | inr ne ↦ rw (ne_eqb place k ne) (omega (arith, debt_of_others lanes place cost k (λ s. ne (sym s))))
    ]

pub step_le : (lanes : List Lane) (event : LaneEvent) (k : ℕ)
    → debt_at lanes k + scale_at lanes k * air_by k lanes event ≤ debt_at (lane_step lanes event) k + forgiven_by lanes event
unfolding lane_step air_by forgiven_by
step_le lanes (Waits place waits) k = omega (arith, field-set (λ lane. lane.debt) lanes place (record (lane_at lanes place) { waits = waits }) k refl)
step_le lanes (Serve cost) k = serve_le lanes cost k (chosen lanes) refl
step_le lanes (Tell place more) k = omega (arith, debt-telling lanes place more k)

-- and no less where it waits
serve_ge : (lanes : List Lane) (cost k : ℕ) (turn : Option ℕ) → chosen lanes ≡ turn → (lane_at lanes k).waits ≡ true
    → debt_at (after_choice lanes cost turn) k + owed_by lanes turn
    ≤ debt_at lanes k + scale_at lanes k * (cond (is_turn_of k turn) cost 0)
unfolding owed_by
serve_ge lanes cost k None e w = omega arith
serve_ge lanes cost k (Some place) e w =
    elim (cases_eq place k) [
      | inl s ↦ rw (eq-eqb place k s) (rw (← s)
          (omega (arith, debt_of_turn lanes place cost (waits_within lanes place (chosen_gives lanes place e).waits))))
      | inr ne ↦ rw (ne_eqb place k ne) (omega (
        arith,
        debt_of_others lanes place cost k (λ s. ne (sym s)),
        (chosen_gives lanes place e).least k w,
      ))
    ]

pub step_ge : (lanes : List Lane) (event : LaneEvent) (k : ℕ) → WaitsForTurn k lanes event
    → debt_at (lane_step lanes event) k + forgiven_by lanes event ≤ debt_at lanes k + scale_at lanes k * air_by k lanes event
unfolding lane_step air_by forgiven_by WaitsForTurn
step_ge lanes (Waits place waits) k w = omega (arith, field-set (λ lane. lane.debt) lanes place (record (lane_at lanes place) { waits = waits }) k refl)
step_ge lanes (Serve cost) k w = serve_ge lanes cost k (chosen lanes) refl w
step_ge lanes (Tell place more) k w = omega (arith, debt-telling lanes place more k)

-- ---- a turn's length

serve_within : (lanes : List Lane) (cost k limit turn : ℕ) (whose : Option ℕ) → chosen lanes ≡ whose
    → debt_at lanes k ≤ scale_at lanes k * turn
    → debt_at (after_choice lanes cost whose) k ≤ scale_at lanes k * (cond (is_turn_of k whose) cost turn)
serve_within lanes cost k limit turn None e h = h
serve_within lanes cost k limit turn (Some place) e h =
    elim (cases_eq place k) [
      | inl s ↦ rw (eq-eqb place k s) (rw (← s)
          (omega (arith, debt_of_turn lanes place cost (waits_within lanes place (chosen_gives lanes place e).waits))))
      | inr ne ↦ rw (ne_eqb place k ne) (omega (arith, debt_of_others lanes place cost k (λ s. ne (sym s)), h))
    ]

tell_within : (lanes : List Lane) (place more k turn : ℕ) → debt_at lanes k ≤ scale_at lanes k * turn
    → debt_at (after_telling lanes place more) k ≤ scale_at lanes k * (cond (eqb place k) (turn + more) turn)
unfolding air_by
tell_within lanes place more k turn h =
    let told = debt-telling lanes place more k in
    elim (cases_eq place k) [
      | inl s ↦ rw (eq-eqb place k s) (omega (arith, h, rw (eq-eqb place k s) at told))
      | inr ne ↦ rw (ne_eqb place k ne) (omega (arith, h, rw (ne_eqb place k ne) at told))
    ]

-- no network owes more than its latest turn costs
pub step_within : (lanes : List Lane) (event : LaneEvent) (k turn : ℕ) → debt_at lanes k ≤ scale_at lanes k * turn
    → debt_at (lane_step lanes event) k ≤ scale_at lanes k * turn_after k lanes turn event
unfolding lane_step turn_after
step_within lanes (Waits place waits) k turn h =
    omega (arith, h, field-set (λ lane. lane.debt) lanes place (record (lane_at lanes place) { waits = waits }) k refl)
step_within lanes (Serve cost) k turn h = serve_within lanes cost k 0 turn (chosen lanes) refl h
step_within lanes (Tell place more) k turn h = tell_within lanes place more k turn h

-- where it is the turn of others, the latest turn grows by what is told of it
serve_passed : (cost k turn : ℕ) (whose : Option ℕ) → is_turn_of k whose ≡ false
    → cond (is_turn_of k whose) cost turn ≡ turn + cond (is_turn_of k whose) cost 0
serve_passed cost k turn whose e = rw e (omega arith)

tell_passed : (place more k turn : ℕ)
    → cond (eqb place k) (turn + more) turn ≡ turn + cond (eqb place k) more 0
tell_passed place more k turn =
    elim (cases_eq place k) [ inl s ↦ rw (eq-eqb place k s) refl | inr ne ↦ rw (ne_eqb place k ne) (omega arith) ]

pub step_passed : (lanes : List Lane) (event : LaneEvent) (k turn : ℕ) → IsTurnOfOthers k lanes event
    → turn_after k lanes turn event ≡ turn + air_by k lanes event
unfolding turn_after air_by IsTurnOfOthers
step_passed lanes (Waits place waits) k turn p = omega arith
step_passed lanes (Serve cost) k turn p = serve_passed cost k turn (chosen lanes) p
step_passed lanes (Tell place more) k turn p = tell_passed place more k turn
