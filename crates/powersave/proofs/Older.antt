-- The units for one that came before a clock.
use Rattle.std.proofs.Common.{◌≡◌, ◌≢◌, ℕ, ◌+◌, ◌≤◌, true, false, not, List, [], ◌∷◌, length, filter, drop, refl, ap, arith, inl, inr}
use Rattle.std.specs.Prelude.{nat_lt}
use Rattle.std.specs.List.{AllByRecursion}
use Rattle.std.proofs.lemmas.Bool.{cases_Bool, le-ltb, ltb-false}
use Rattle.powersave.specs.declared.unit.Whom.{Whom}
use Rattle.powersave.specs.declared.unit.Unit.{Unit as Msdu}
use Rattle.powersave.specs.Keep.{Entry, is_for, is_older, units_for, without_oldest, without_older, first_is_older, CameInOrder}
use Rattle.powersave.proofs.Parts.{oldest_for_one, not_for_other}

module _ (whom : Whom) (limit : ℕ) where
  -- how many these are
  abbrev pub older_count : List Entry → ℕ
  older_count es = length (filter (is_older whom limit) es)

  pub older-few : (es : List Entry) → older_count es ≤ length es
  older-few [] = omega arith
  older-few (e ∷ es) = grind (arith, older-few es)

  -- ---- the first for one came before the clock, and leaves

  -- the others that did are left
  abbrev IsOneLess : List Entry → List Entry → Type 0
  IsOneLess es gone = (without_older whom limit gone ≡ without_older whom limit es) × (older_count es ≡ older_count gone + 1)

  pub one-less : (es : List Entry) → first_is_older limit (units_for whom es) ≡ true → IsOneLess es (without_oldest whom es)
  one-less [] first = absurd (cc)
  one-less (e ∷ es) first = elim (cases_Bool (is_for whom e)) [
    | inl here ↦
        let old : nat_lt e.1.at limit ≡ true = rw here at first in
        (rw (here, old) refl, rw (here, old) (omega arith))
    | inr other ↦
        let rest = one-less es (rw other at first) in
        (rw other (rw other (ap (λ fs. e ∷ fs) rest.0)), rw other (rw other rest.1))
  ]

  pub in-order_later : (es : List Entry) → CameInOrder (units_for whom es) → CameInOrder (units_for whom (without_oldest whom es))
  in-order_later es order = rw (oldest_for_one whom es) (later (units_for whom es) order)
    where
      later : (us : List Msdu) → CameInOrder us → CameInOrder (drop 1 us)
      later [] h = tt
      later (u ∷ us) h = h.1

  -- ---- where the first came no earlier, none of them did

  abbrev pub AreFrom : List Msdu → Type 0
  AreFrom us = AllByRecursion (λ u. limit ≤ u.at) us

  all-from : (us : List Msdu) (least : ℕ) → limit ≤ least → AllByRecursion (λ u. least ≤ u.at) us → AreFrom us
  all-from [] least le above = tt
  all-from (u ∷ us) least le above = let here = above.0 in (omega (arith, le, here), all-from us least le above.1)

  from-first : (us : List Msdu) → CameInOrder us → first_is_older limit us ≡ false → AreFrom us
  from-first [] order first = tt
  from-first (u ∷ us) order first = let le : limit ≤ u.at = ltb-false u.at limit first in (le, all-from us u.at le order.0)

  none-older : (es : List Entry) → AreFrom (units_for whom es) → (without_older whom limit es ≡ es) × (older_count es ≡ 0)
  none-older [] from = (refl, refl)
  none-older (e ∷ es) from = elim (cases_Bool (is_for whom e)) [
    | inl here ↦
        let all : AreFrom (e.1 ∷ units_for whom es) = rw here at from in
        let young : nat_lt e.1.at limit ≡ false = le-ltb e.1.at limit all.0 in
        let rest = none-older es all.1 in
        (rw (here, young) (ap (λ fs. e ∷ fs) rest.0), rw (here, young) rest.1)
    | inr other ↦ let rest = none-older es (rw other at from) in (rw other (ap (λ fs. e ∷ fs) rest.0), rw other rest.1)
  ]

  pub none-left : (es : List Entry) → CameInOrder (units_for whom es) → first_is_older limit (units_for whom es) ≡ false → (without_older whom limit es ≡ es) × (older_count es ≡ 0)
  none-left es order first = none-older es (from-first (units_for whom es) order first)

-- ---- who they are for

-- those for one that came later
pub older_for_one : (whom : Whom) (limit : ℕ) (es : List Entry) → units_for whom (without_older whom limit es) ≡ filter (λ u. not (nat_lt u.at limit)) (units_for whom es)
older_for_one whom limit [] = refl
older_for_one whom limit (e ∷ es) = grind (arith, older_for_one whom limit es)

pub older_for_others : (whom other : Whom) (limit : ℕ) (es : List Entry) → whom ≢ other → units_for other (without_older whom limit es) ≡ units_for other es
older_for_others whom other limit [] differ = refl
older_for_others whom other limit (e ∷ es) differ = grind (arith, older_for_others whom other limit es differ, not_for_other whom other e differ)
