-- Whose turn it is, by the function and by the relation.
use Rattle.std.proofs.Common.{◌≡◌, ℕ, zero, suc, ◌<◌, ◌≤◌, Bool, true, false, not, ◌||◌, leb, List, [], ◌∷◌, length, subst}
use Rattle.std.proofs.Common.{Option, Some, None, refl, sym, ap, arith, inl, inr}
use Rattle.std.specs.List.{list_all}
use Rattle.std.specs.Option.{option_map}
use Rattle.std.proofs.lemmas.Bool.{and_parts, and_from, and_left, or_cases, or_left, or_right, leb-true, le-leb, false_from_ne_true, cases_Bool, both_ways, cases_lt, not-true}
use Rattle.air_share.specs.declared.lane.Lane.{Lane}
use Rattle.air_share.specs.Lanes.{lane_at, no_lane, is_least, first_place, chosen, IsChoice}
use Rattle.air_share.proofs.Lists.{list_all_from, list_all_at}

-- ---- the first that passes a test

first_place_is : (test : Lane → Bool) (lanes : List Lane) (place : ℕ) → place < length lanes
    → test (lane_at lanes place) ≡ true → ((k : ℕ) → k < place → test (lane_at lanes k) ≡ false)
    → first_place test lanes ≡ Some place
first_place_is test [] place l t f = absurd (omega arith)
first_place_is test (lane ∷ lanes) zero l t f = rw t refl
first_place_is test (lane ∷ lanes) (suc place) l t f =
    rw (f 0 (omega arith)) (ap (option_map suc)
    (first_place_is test lanes place (omega arith) t (λ k b. f (suc k) (omega arith))))

first_place_none : (test : Lane → Bool) (lanes : List Lane)
    → ((k : ℕ) → k < length lanes → test (lane_at lanes k) ≡ false) → first_place test lanes ≡ None
first_place_none test [] f = refl
first_place_none test (lane ∷ lanes) f =
    rw (f 0 (omega arith)) (ap (option_map suc) (first_place_none test lanes (λ k b. f (suc k) (omega arith))))

IsPassed : (Lane → Bool) → List Lane → Option ℕ → Type 0
IsPassed test lanes None = Unit {0}
IsPassed test lanes (Some place) =
    (test (lane_at lanes place) ≡ true) × (place < length lanes) × ((k : ℕ) → k < place → test (lane_at lanes k) ≡ false)

first_place_passes : (test : Lane → Bool) (lanes : List Lane) → IsPassed test lanes (first_place test lanes)
unfolding IsPassed
first_place_passes test [] = tt
first_place_passes test (lane ∷ lanes) =
    elim (cases_Bool (test lane)) [
      | inl t ↦ rw t (t, omega arith, λ k b. absurd (omega arith))
      | inr f ↦ rw f (later f (first_place test lanes) (first_place_passes test lanes))
    ]
  where
    not_before : test lane ≡ false → (place : ℕ) → ((k : ℕ) → k < place → test (lane_at lanes k) ≡ false)
        → (k : ℕ) → k < suc place → test (lane_at (lane ∷ lanes) k) ≡ false
    not_before f place h zero b = f
    not_before f place h (suc k) b = h k (omega arith)

    later : test lane ≡ false → (found : Option ℕ) → IsPassed test lanes found
        → IsPassed test (lane ∷ lanes) (option_map suc found)
    later f None p = tt
    later f (Some place) p = (p.0, omega (arith, p.1), not_before f place p.2)

-- ---- it waits

-- who waits has a place
pub waits_within : (lanes : List Lane) (place : ℕ) → (lane_at lanes place).waits ≡ true → place < length lanes
waits_within [] place w = absurd (cc)
waits_within (lane ∷ lanes) zero w = omega arith
waits_within (lane ∷ lanes) (suc place) w = omega (arith, waits_within lanes place w)

-- ---- the least debt

-- nothing waits there, or no less is owed there
abbrev no_less : Lane → Lane → Bool
no_less lane other = not other.waits || leb lane.debt other.debt

no_less_from : (lane other : Lane) → (other.waits ≡ true → lane.debt ≤ other.debt) → no_less lane other ≡ true
no_less_from lane other h =
    elim (cases_Bool other.waits) [
      | inl t ↦ or_right (not other.waits) _ (le-leb _ _ (h t))
      | inr f ↦ or_left (not other.waits) _ (ap not f)
    ]

no_less_gives : (lane other : Lane) → no_less lane other ≡ true → other.waits ≡ true → lane.debt ≤ other.debt
no_less_gives lane other h w =
    elim (or_cases (not other.waits) _ h) [
      | inl n ↦ absurd (both_ways other.waits (not-true _ n) w)
      | inr l ↦ leb-true _ _ l
    ]

least_from : (lanes : List Lane) (lane : Lane) → lane.waits ≡ true
    → ((k : ℕ) → (lane_at lanes k).waits ≡ true → lane.debt ≤ (lane_at lanes k).debt) → is_least lanes lane ≡ true
least_from lanes lane w least =
    and_from _ _ w (list_all_from (no_less lane) lanes no_lane (λ k l. no_less_from lane (lane_at lanes k) (least k)))

least_gives : (lanes : List Lane) (lane : Lane) → is_least lanes lane ≡ true
    → (lane.waits ≡ true) × ((k : ℕ) → (lane_at lanes k).waits ≡ true → lane.debt ≤ (lane_at lanes k).debt)
least_gives lanes lane h =
    let parts = and_parts lane.waits (list_all (no_less lane) lanes) h in (
      parts.0,
      λ k w. no_less_gives lane (lane_at lanes k)
          (list_all_at (no_less lane) lanes no_lane k parts.1 (waits_within lanes k w)) w,
    )

-- ---- the function and the relation

-- the function chooses where the relation holds
pub chosen_from : (lanes : List Lane) (place : ℕ) → IsChoice lanes place → chosen lanes ≡ Some place
unfolding chosen
chosen_from lanes place h =
    first_place_is (is_least lanes) lanes place (waits_within lanes place h.waits)
    (least_from lanes (lane_at lanes place) h.waits h.least)
    (λ k before. false_from_ne_true _ (λ t.
    let g = least_gives lanes (lane_at lanes k) t in
    omega (arith, h.first k before g.0, g.1 place h.waits)))

pub chosen_none : (lanes : List Lane) → ((k : ℕ) → (lane_at lanes k).waits ≡ false) → chosen lanes ≡ None
unfolding chosen
chosen_none lanes none = first_place_none (is_least lanes) lanes (λ k l. and_left _ _ (none k))

chosen_passes : (lanes : List Lane) (place : ℕ) → chosen lanes ≡ Some place
    → (is_least lanes (lane_at lanes place) ≡ true) × (place < length lanes)
    × ((k : ℕ) → k < place → is_least lanes (lane_at lanes k) ≡ false)
unfolding chosen IsPassed
chosen_passes lanes place e =
    let P : Option ℕ → Type 0 = IsPassed (is_least lanes) lanes in
    subst P e (first_place_passes (is_least lanes) lanes)

-- the relation holds where the function chooses
pub chosen_gives : (lanes : List Lane) (place : ℕ) → chosen lanes ≡ Some place → IsChoice lanes place
chosen_gives lanes place e =
    let p = chosen_passes lanes place e in
    let g = least_gives lanes (lane_at lanes place) p.0 in
    record { waits = g.0; least = g.1; first = λ k b w. less k w (p.2 k b) g.1 }
  where
    less : (k : ℕ) → (lane_at lanes k).waits ≡ true → is_least lanes (lane_at lanes k) ≡ false
        → ((j : ℕ) → (lane_at lanes j).waits ≡ true → (lane_at lanes place).debt ≤ (lane_at lanes j).debt)
        → (lane_at lanes place).debt < (lane_at lanes k).debt
    less k w f least =
        elim (cases_lt (lane_at lanes place).debt (lane_at lanes k).debt) [
          | inl l ↦ l
          | inr ge ↦ absurd (both_ways _ f (least_from lanes (lane_at lanes k) w (λ j v. omega (arith, ge, least j v))))
        ]

-- ---- the best of the first lanes

pub record IsBest (lanes : List Lane) (n place least : ℕ) : Type 0 where
  pub within : place < n
  pub waits : (lane_at lanes place).waits ≡ true
  pub debt : least ≡ (lane_at lanes place).debt
  pub lowest : (k : ℕ) → k < n → (lane_at lanes k).waits ≡ true → least ≤ (lane_at lanes k).debt
  pub first : (k : ℕ) → k < place → (lane_at lanes k).waits ≡ true → least < (lane_at lanes k).debt

-- of all lanes, it is what the function chooses
pub chosen_of_best : (lanes : List Lane) (n place least : ℕ) → length lanes ≤ n → IsBest lanes n place least
    → Some place ≡ chosen lanes
chosen_of_best lanes n place least all h =
    sym (chosen_from lanes place (record {
      waits = h.waits;
      least = λ k w. omega (arith, h.debt, h.lowest k (omega (arith, waits_within lanes k w)) w);
      first = λ k b w. omega (arith, h.debt, h.first k b w);
    }))
