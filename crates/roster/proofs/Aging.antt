-- Units one after the other, and those that are too old.
use Rattle.std.proofs.Common.{◌≡◌, ℕ, ◌≤◌, Bool, true, false, not, ◌&&◌, List, [], ◌∷◌, ◌++◌, refl, sym, ap, subst, inl, inr, arith}
use Rattle.std.specs.Prelude.{filter, map}
use Rattle.std.specs.List.{AllByRecursion}
use Rattle.std.proofs.lemmas.Bool.{cases_Bool, cond_both}
use Rattle.powersave.specs.Keep.{Entry, is_for, units_for, without_first, CameInOrder}
use Rattle.powersave.specs.declared.unit.Whom.{Whom}
use Rattle.powersave.specs.declared.unit.Whom.TheVariants.{Group}
use Rattle.powersave.specs.declared.unit.Unit.{Unit as DataUnit}
use Rattle.roster.specs.KeptUnits.{CameBy, is_too_old}
use Rattle.roster.specs.Roster.{is_aged}
use Rattle.stations.specs.Stations.{Table, changed}
use Rattle.stations.specs.declared.table.Change.{Change}
use Rattle.stations.specs.declared.table.Change.TheVariants as changes

-- ---- what holds of each unit

pub each : {P Q : Entry → Type 0} (es : List Entry) → ((e : Entry) → P e → Q e) → AllByRecursion P es → AllByRecursion Q es
each [] f h = tt
each (e ∷ es) f h = (f e h.0, each es f h.1)

pub each-two : {P Q R : Entry → Type 0} (es : List Entry) → ((e : Entry) → P e → Q e → R e) → AllByRecursion P es → AllByRecursion Q es → AllByRecursion R es
each-two [] f h k = tt
each-two (e ∷ es) f h k = (f e h.0 k.0, each-two es f h.1 k.1)

pub each-filtered : (P : Entry → Type 0) (p : Entry → Bool) (es : List Entry) → AllByRecursion P es → AllByRecursion P (filter p es)
each-filtered P p [] h = tt
each-filtered P p (e ∷ es) h = let rest = each-filtered P p es h.1 in cond_both (p e) _ _ (AllByRecursion P) (λ _. (h.0, rest)) (λ _. rest)

pub each-without_first : (P : Entry → Type 0) (p : Entry → Bool) (es : List Entry) → AllByRecursion P es → AllByRecursion P (without_first p es)
each-without_first P p [] h = tt
each-without_first P p (e ∷ es) h = cond_both (p e) _ _ (AllByRecursion P) (λ _. h.1) (λ _. (h.0, each-without_first P p es h.1))

pub each-push : (P : Entry → Type 0) (f : Entry) (es : List Entry) → AllByRecursion P es → P f → AllByRecursion P (es ++ f ∷ [])
each-push P f [] h k = (k, tt)
each-push P f (e ∷ es) h k = (h.0, each-push P f es h.1 k)

-- ---- the units for one

module _ (whom : Whom) where
  abbrev Part : List Entry → Type 0
  Part es = CameInOrder (units_for whom es)

  own : (e : Entry) (es : List Entry) → is_for whom e ≡ true → Part (e ∷ es) → AllByRecursion (λ later. e.1.at ≤ later.at) (units_for whom es) × Part es
  own e es here order = rw here at order

  other : (e : Entry) (es : List Entry) → is_for whom e ≡ false → Part (e ∷ es) → Part es
  other e es away order = rw away at order

  part-rest : (e : Entry) (es : List Entry) → Part (e ∷ es) → Part es
  part-rest e es order = elim (cases_Bool (is_for whom e)) [ inl here ↦ (own e es here order).1 | inr away ↦ other e es away order ]

  part-first : (e : Entry) (es : List Entry) → (is_for whom e ≡ true → AllByRecursion (λ later. e.1.at ≤ later.at) (units_for whom es)) → Part es → Part (e ∷ es)
  part-first e es first rest =
      cond_both (is_for whom e) _ _ (λ fs. CameInOrder (map (λ (entry : Entry). entry.1) fs)) (λ here. (first here, rest)) (λ _. rest)

  module _ (P : DataUnit → Type 0) where
    abbrev Each : List Entry → Type 0
    Each es = AllByRecursion P (units_for whom es)

    units-first : (e : Entry) (es : List Entry) → (is_for whom e ≡ true → P e.1) → Each es → Each (e ∷ es)
    units-first e es first rest =
        cond_both (is_for whom e) _ _ (λ fs. AllByRecursion P (map (λ (entry : Entry). entry.1) fs)) (λ here. (first here, rest)) (λ _. rest)

    units-own : (e : Entry) (es : List Entry) → is_for whom e ≡ true → Each (e ∷ es) → P e.1
    units-own e es here all = let both : P e.1 × Each es = rw here at all in both.0

    units-rest : (e : Entry) (es : List Entry) → Each (e ∷ es) → Each es
    units-rest e es all = elim (cases_Bool (is_for whom e)) [
      | inl here ↦ let both : P e.1 × Each es = rw here at all in both.1
      | inr away ↦ rw away at all
    ]

    units-filtered : (p : Entry → Bool) (es : List Entry) → Each es → Each (filter p es)
    units-filtered p [] all = tt
    units-filtered p (e ∷ es) all =
        let rest = units-filtered p es (units-rest e es all) in
        cond_both (p e) _ _ Each (λ _. units-first e (filter p es) (λ here. units-own e es here all) rest) (λ _. rest)

    units-without_first : (p : Entry → Bool) (es : List Entry) → Each es → Each (without_first p es)
    units-without_first p [] all = tt
    units-without_first p (e ∷ es) all =
        cond_both (p e) _ _ Each (λ _. units-rest e es all) (λ _. units-first e (without_first p es) (λ here. units-own e es here all) (units-without_first p es (units-rest e es all)))

    units-push : (w : Whom) (u : DataUnit) (es : List Entry) → P u → Each es → Each (es ++ (w, u) ∷ [])
    units-push w u [] last all = units-first (w, u) [] (λ _. last) tt
    units-push w u (e ∷ es) last all = units-first e (es ++ (w, u) ∷ []) (λ here. units-own e es here all) (units-push w u es last (units-rest e es all))

    -- what holds of all entries
    units-of : (es : List Entry) → AllByRecursion (λ e. P e.1) es → Each es
    units-of [] all = tt
    units-of (e ∷ es) all = units-first e es (λ _. all.0) (units-of es all.1)

    pub entries-of : (es : List Entry) → Each es → AllByRecursion (λ e. is_for whom e ≡ true → P e.1) es
    entries-of [] all = tt
    entries-of (e ∷ es) all = ((λ here. units-own e es here all), entries-of es (units-rest e es all))

  part-filtered : (p : Entry → Bool) (es : List Entry) → Part es → Part (filter p es)
  part-filtered p [] order = tt
  part-filtered p (e ∷ es) order =
      let rest = part-filtered p es (part-rest e es order) in
      cond_both (p e) _ _ Part (λ _. part-first e (filter p es) (λ here. units-filtered (λ later. e.1.at ≤ later.at) p es (own e es here order).0) rest) (λ _. rest)

  part-without_first : (p : Entry → Bool) (es : List Entry) → Part es → Part (without_first p es)
  part-without_first p [] order = tt
  part-without_first p (e ∷ es) order =
      cond_both (p e) _ _ Part (λ _. part-rest e es order)
      (λ _. part-first e (without_first p es) (λ here. units-without_first (λ later. e.1.at ≤ later.at) p es (own e es here order).0) (part-without_first p es (part-rest e es order)))

  part-push : (w : Whom) (u : DataUnit) (es : List Entry) → AllByRecursion (λ e. e.1.at ≤ u.at) es → Part es → Part (es ++ (w, u) ∷ [])
  part-push w u [] by order = part-first (w, u) [] (λ _. tt) tt
  part-push w u (e ∷ es) by order =
      part-first e (es ++ (w, u) ∷ []) (λ here. units-push (λ later. e.1.at ≤ later.at) w u es by.0 (own e es here order).0) (part-push w u es by.1 (part-rest e es order))

-- ---- units that came in order

pub came-rest : (clock : ℕ) (e : Entry) (es : List Entry) → CameBy clock (e ∷ es) → CameBy clock es
came-rest clock e es h = record { in_order = λ whom. part-rest whom e es (h.in_order whom); by = h.by.1 }

-- those that stand behind the first for its receiver came no earlier
pub came-first : (clock : ℕ) (e : Entry) (es : List Entry) → is_for e.0 e ≡ true → CameBy clock (e ∷ es) → AllByRecursion (λ f. is_for e.0 f ≡ true → e.1.at ≤ f.1.at) es
came-first clock e es here h = entries-of e.0 (λ later. e.1.at ≤ later.at) es (own e.0 e es here (h.in_order e.0)).0

pub came-filtered : (p : Entry → Bool) (clock : ℕ) (es : List Entry) → CameBy clock es → CameBy clock (filter p es)
came-filtered p clock es h = record { in_order = λ whom. part-filtered whom p es (h.in_order whom); by = each-filtered (λ e. e.1.at ≤ clock) p es h.by }

pub came-without_first : (p : Entry → Bool) (clock : ℕ) (es : List Entry) → CameBy clock es → CameBy clock (without_first p es)
came-without_first p clock es h = record { in_order = λ whom. part-without_first whom p es (h.in_order whom); by = each-without_first (λ e. e.1.at ≤ clock) p es h.by }

pub came-push : (whom : Whom) (u : DataUnit) (clock : ℕ) (es : List Entry) → u.at ≡ clock → CameBy clock es → CameBy clock (es ++ (whom, u) ∷ [])
came-push whom u clock es at h = record {
  in_order = λ w. part-push w whom u es (subst (λ (n : ℕ). AllByRecursion (λ e. e.1.at ≤ n) es) (sym at) h.by) (h.in_order w);
  by = each-push (λ e. e.1.at ≤ clock) (whom, u) es h.by (omega (arith, at));
}

pub came-later : (clock later : ℕ) (es : List Entry) → clock ≤ later → CameBy clock es → CameBy later es
came-later clock later es le h = record { in_order = h.in_order; by = each es (λ e at. omega (arith, le, at)) h.by }

pub in-order : (whom : Whom) (clock : ℕ) (es : List Entry) → CameBy clock es → CameInOrder (units_for whom es)
in-order whom clock es h = h.in_order whom

-- ---- those that leave

-- where none leaves, all stay
pub none-leaves : (p : Entry → Bool) (es : List Entry) → ((e : Entry) → p e ≡ false) → (filter (λ e. not (p e)) es ≡ es) × (filter p es ≡ [])
none-leaves p [] none = (refl, refl)
none-leaves p (e ∷ es) none = let rest = none-leaves p es none in (rw (none e) (ap (λ fs. e ∷ fs) rest.0), rw (none e) rest.1)

-- a unit for the group doesn't age
pub group-young : (clock : ℕ) (t : Table) (e : Entry) → is_for Group e ≡ true → is_too_old clock t e ≡ false
group-young clock t e h = grind (arith, h)

-- where one begins, no station changes
pub same-aged : (ages : Bool) (clock : ℕ) (change : Change) (t : Table) → (ages ≡ true → change ≡ changes.Nothing) → is_aged ages clock (changed change t) ≡ is_aged ages clock t
same-aged true clock change t still = ap (λ (k : Change). is_aged true clock (changed k t)) (still refl)
same-aged false clock change t still = refl

-- where no units age, all stay
pub young : (ages : Bool) (clock : ℕ) (t : Table) (es : List Entry) → ages ≡ false → (filter (λ e. not (is_aged ages clock t e)) es ≡ es) × (filter (is_aged ages clock t) es ≡ [])
young ages clock t es off = none-leaves (is_aged ages clock t) es (λ e. ap (λ (b : Bool). b && is_too_old clock t e) off)
