-- A unit that comes back: what holds of each unit then, and the order of those for its receiver.
use Rattle.std.proofs.Common.{◌≡◌, ◌≢◌, ℕ, zero, suc, ◌≤◌, Bool, true, List, [], ◌∷◌, ◌++◌, map, take, drop, sym, subst, inl, inr}
use Rattle.std.specs.List.{AllByRecursion}
use Rattle.std.proofs.lemmas.Bool.{both_ways, cases_Bool, cond_both}
use Rattle.powersave.specs.Keep.{Entry, is_for, is_same, units_for, without_first, CameInOrder}
use Rattle.powersave.specs.Returns.{put_back, without_firsts}
use Rattle.powersave.specs.declared.unit.Whom.{Whom}
use Rattle.powersave.specs.declared.unit.Unit.{Unit as DataUnit}
use Rattle.roster.specs.KeptUnits.{CameBy}
use Rattle.roster.proofs.Aging.{each-without_first}
use Rattle.roster.proofs.RosterAging.{same_whom, itself}

module _ (P : Entry → Type 0) where
  each-without_firsts : (p : Entry → Bool) (n : ℕ) (es : List Entry) → AllByRecursion P es → AllByRecursion P (without_firsts p n es)
  each-without_firsts p zero es all = all
  each-without_firsts p (suc n) es all = each-without_firsts p n (without_first p es) (each-without_first P p es all)

  module _ (whom : Whom) where
    abbrev Each : List DataUnit → Type 0
    Each us = AllByRecursion (λ u. P (whom, u)) us

    units-each : (es : List Entry) → AllByRecursion P es → Each (units_for whom es)
    units-each [] all = tt
    units-each (e ∷ es) all =
        let rest = units-each es all.1 in
        cond_both (is_for whom e) _ _ (λ fs. Each (map (λ (entry : Entry). entry.1) fs)) (λ here. (subst (λ (w : Whom). P (w, e.1)) (same_whom e.0 whom here) all.0, rest)) (λ _. rest)

    in-front : (n : ℕ) (us : List DataUnit) (u : DataUnit) (es : List Entry) → Each us → P (whom, u) → AllByRecursion P es → AllByRecursion P (map (λ v. (whom, v)) (take n us ++ u ∷ []) ++ es)
    in-front zero us u es all own rest = (own, rest)
    in-front (suc n) [] u es all own rest = (own, rest)
    in-front (suc n) (v ∷ us) u es all own rest = (all.0, in-front n us u es all.1 own rest)

    pub each-put_back : (before : ℕ) (u : DataUnit) (es : List Entry) → AllByRecursion P es → P (whom, u) → AllByRecursion P (put_back whom before u es)
    each-put_back before u es all own =
        in-front before (units_for whom es) u (without_firsts (is_for whom) before es) (units-each es all) own (each-without_firsts (is_for whom) before es all)

-- ---- the order of those for its receiver

after-it : (k : ℕ) (n : ℕ) (us : List DataUnit) (u : DataUnit) → k ≤ u.at → AllByRecursion (λ later. k ≤ later.at) us → AllByRecursion (λ later. k ≤ later.at) (take n us ++ u ∷ drop n us)
after-it k zero us u le all = (le, all)
after-it k (suc n) [] u le all = (le, tt)
after-it k (suc n) (v ∷ us) u le all = (all.0, after-it k n us u le all.1)

order-back : (n : ℕ) (us : List DataUnit) (u : DataUnit) → AllByRecursion (λ earlier. earlier.at ≤ u.at) (take n us) → AllByRecursion (λ later. u.at ≤ later.at) (drop n us) → CameInOrder us → CameInOrder (take n us ++ u ∷ drop n us)
order-back zero us u front back order = (back, order)
order-back (suc n) [] u front back order = (tt, tt)
order-back (suc n) (v ∷ us) u front back order = (after-it v.at n us u front.0 order.0, order-back n us u front.1 back order.1)

-- where it stands, and that those for others stay
module _ (place : (whom : Whom) (before : ℕ) (u : DataUnit) (es : List Entry) → units_for whom (put_back whom before u es) ≡ take before (units_for whom es) ++ u ∷ drop before (units_for whom es))
    (others : (whom other : Whom) (before : ℕ) (u : DataUnit) (es : List Entry) → whom ≢ other → units_for other (put_back whom before u es) ≡ units_for other es) where
  pub came-back : (whom : Whom) (before : ℕ) (u : DataUnit) (clock : ℕ) (es : List Entry) → u.at ≤ clock → AllByRecursion (λ earlier. earlier.at ≤ u.at) (take before (units_for whom es)) → AllByRecursion (λ later. u.at ≤ later.at) (drop before (units_for whom es)) → CameBy clock es → CameBy clock (put_back whom before u es)
  came-back whom before u clock es le front back h = record {
    in_order = λ w. elim (cases_Bool (is_same whom w)) [
      | inl here ↦ subst (λ (k : Whom). CameInOrder (units_for k (put_back whom before u es))) (same_whom whom w here) (subst CameInOrder (sym (place whom before u es)) (order-back before (units_for whom es) u front back (h.in_order whom)))
      | inr away ↦ subst CameInOrder (sym (others whom w before u es (λ same. both_ways _ away (subst (λ (k : Whom). is_same whom k ≡ true) same (itself whom))))) (h.in_order w)
    ];
    by = each-put_back (λ e. e.1.at ≤ clock) whom before u es h.by le;
  }
