-- Units that are too old, those for one after those for another.
use Rattle.std.proofs.Common.{◌≡◌, ℕ, zero, suc, ◌+◌, ◌-◌, ◌<◌, ◌≤◌, leb, Bool, true, false, not, ◌&&◌, cond, List, [], ◌∷◌, length, Option, Some, refl, sym, ap, subst, ◌∙◌, arith}
use Rattle.std.specs.Prelude.{filter, map, nat_lt}
use Rattle.std.specs.Cmp.Lexicographic.{bytes_decides}
use Rattle.std.specs.List.{AllByRecursion, slice_get}
use Rattle.std.specs.Option.{IsSomeAnd}
use Rattle.std.proofs.lemmas.Bool.{and_right, cond_both, false_from_ne_true, le-ltb, ltb-true, not-true, true≢false}
use Rattle.std.proofs.lemmas.Bool.Decides.{nat_tests}
use Rattle.powersave.specs.Keep.{Entry, is_for, is_same, is_older, units_for, without_older, oldest_at, first_clock, CameInOrder, AreOldest}
use Rattle.powersave.specs.declared.unit.Oldest.{Oldest}
use Rattle.powersave.specs.declared.unit.Whom.{Whom}
use Rattle.powersave.specs.declared.unit.Whom.TheVariants.{One, Group}
use Rattle.powersave.specs.declared.unit.Unit.{Unit as DataUnit}
use Rattle.roster.specs.Roster.{AreAmong, limit_for, stays}
use Rattle.roster.specs.KeptUnits.{CameBy, is_too_old_for, is_too_old}
use Rattle.stations.specs.Stations.{Table, state_of, listen_with}
use Rattle.roster.proofs.Aging.{came-rest, came-first}

-- ---- the same one

pub same_whom : (a b : Whom) → is_same a b ≡ true → a ≡ b
same_whom (One a) (One b) e = ap One ((bytes_decides a b).0 e)
same_whom (One a) Group e = cc
same_whom Group (One b) e = cc
same_whom Group Group e = refl

pub itself : (a : Whom) → is_same a a ≡ true
itself (One a) = (bytes_decides a a).1 refl
itself Group = refl

turned : (a b : Whom) → is_same a b ≡ true → is_same b a ≡ true
turned a b here = subst (λ (w : Whom). is_same w a ≡ true) (same_whom a b here) (itself a)

-- ---- too old is older than a clock

late-older : (at listen clock : ℕ) → nat_lt (at + listen) clock ≡ nat_lt at (clock - listen)
late-older at listen clock = grind (arith, nat_tests)

old-for : (clock : ℕ) (t : Table) (whom : Whom) (at : ℕ) → is_too_old_for clock t whom at ≡ nat_lt at (limit_for clock t whom)
old-for clock t (One addr) at = late-older at (listen_with (state_of addr t)) clock
old-for clock t Group at = sym (le-ltb at 0 (omega arith))

module _ (clock : ℕ) (t : Table) where
  abbrev old : Entry → Bool
  old e = is_too_old clock t e

  pub too-old : (whom : Whom) (e : Entry) → is_for whom e ≡ true → is_too_old clock t e ≡ nat_lt e.1.at (limit_for clock t whom)
  too-old whom e here = ap (λ (w : Whom). is_too_old_for clock t w e.1.at) (same_whom e.0 whom here) ∙ old-for clock t whom e.1.at

  older-is : (whom : Whom) (e : Entry) → is_older whom (limit_for clock t whom) e ≡ (is_for whom e && old e)
  older-is whom e = grind (arith, too-old whom e)

  -- ---- those of one leave

  module _ (whom : Whom) where
    abbrev gone : List Entry → List Entry
    gone es = without_older whom (limit_for clock t whom) es

    abbrev leaves : Entry → Bool
    leaves e = is_older whom (limit_for clock t whom) e

    -- one that leaves is too old
    leaves-old : (e : Entry) → old e ≡ false → leaves e ≡ false
    leaves-old e young = older-is whom e ∙ rw young (and_right (is_for whom e) false refl)

    pub left-young : (es : List Entry) → filter (λ e. not (old e)) (gone es) ≡ filter (λ e. not (old e)) es
    left-young [] = refl
    left-young (e ∷ es) = grind (arith, left-young es, leaves-old e)

    pub left-count : (es : List Entry) → length (filter old es) ≡ length (filter old (gone es)) + length (filter leaves es)
    left-count [] = refl
    left-count (e ∷ es) = grind (arith, left-count es, leaves-old e)

  -- ---- those that are too old are among some

  abbrev pub FirstOf : List Entry → Entry → Type 0
  FirstOf es e = IsSomeAnd (first_clock (units_for e.0 es)) (λ at. at ≤ e.1.at)

  -- the first for the same one came no later
  one-more : (e : Entry) (es fs : List Entry) → AllByRecursion (λ f. is_for e.0 f ≡ true → e.1.at ≤ f.1.at) fs → AllByRecursion (FirstOf es) fs → AllByRecursion (FirstOf (e ∷ es)) fs
  one-more e es [] order first = tt
  one-more e es (f ∷ fs) order first =
      (cond_both (is_for f.0 e) _ _ (λ gs. IsSomeAnd (first_clock (map (λ x. x.1) gs)) (λ at. at ≤ f.1.at)) (λ here. order.0 (turned e.0 f.0 here)) (λ _. first.0), one-more e es fs order.1 first.1)

  pub firsts : (es : List Entry) → CameBy clock es → AllByRecursion (FirstOf es) es
  firsts [] came = tt
  firsts (e ∷ es) came = (rw (itself e.0) (omega arith), one-more e es es (came-first clock e es (itself e.0) came) (firsts es (came-rest clock e es came)))

  pub among-all : (os : List Oldest) (es : List Entry) → AreOldest os es → CameBy clock es → AreAmong clock t os es
  among-all os es told came = by es (firsts es came)
    where
      by : (fs : List Entry) → AllByRecursion (FirstOf es) fs → AreAmong clock t os fs
      by [] first = tt
      by (f ∷ fs) first = ((λ is. subst (λ (o : Option ℕ). IsSomeAnd o (λ at. at ≤ f.1.at)) (sym (told f.0)) first.0), by fs first.1)

  -- once those for one have left, the others are among the rest
  pub among-aged : (o : Oldest) (os : List Oldest) (es : List Entry) → AreAmong clock t (o ∷ os) es → AreAmong clock t os (gone o.whom es)
  among-aged o os [] among = tt
  among-aged o os (e ∷ es) among =
      let rest = among-aged o os es among.1 in
      cond_both (not (leaves o.whom e)) _ _ (AreAmong clock t os) (λ stays. ((λ is. other (not-true (leaves o.whom e) stays) is (is_same o.whom e.0) refl (among.0 is)), rest)) (λ _. rest)
    where
      other : leaves o.whom e ≡ false → old e ≡ true → (b : Bool) → is_same o.whom e.0 ≡ b → IsSomeAnd (cond b (Some o.at) (oldest_at e.0 os)) (λ at. at ≤ e.1.at) → IsSomeAnd (oldest_at e.0 os) (λ at. at ≤ e.1.at)
      other stays is true here some =
          let for_it : is_for o.whom e ≡ true = rw (same_whom o.whom e.0 here) (itself e.0) in
          absurd (true≢false (sym (older-is o.whom e ∙ ap (λ b. b && old e) for_it ∙ is) ∙ stays))
      other stays is false apart some = some

  -- one whose first unit came no earlier than its limit has none that is too old
  pub among-young : (o : Oldest) (os : List Oldest) (es : List Entry) → limit_for clock t o.whom ≤ o.at → AreAmong clock t (o ∷ os) es → AreAmong clock t os es
  among-young o os [] young among = tt
  among-young o os (e ∷ es) young among = ((λ is. by is (is_same o.whom e.0) refl (among.0 is)), among-young o os es young among.1)
    where
      by : old e ≡ true → (b : Bool) → is_same o.whom e.0 ≡ b → IsSomeAnd (cond b (Some o.at) (oldest_at e.0 os)) (λ at. at ≤ e.1.at) → IsSomeAnd (oldest_at e.0 os) (λ at. at ≤ e.1.at)
      by is true here le =
          let late : e.1.at < limit_for clock t e.0 = ltb-true e.1.at (limit_for clock t e.0) (sym (old-for clock t e.0 e.1.at) ∙ is) in
          let limit = ap (limit_for clock t) (same_whom o.whom e.0 here) in
          absurd (omega (arith, late, limit, young, le))
      by is false apart some = some

  -- where none is left, none is too old
  pub none-among : (es : List Entry) → AreAmong clock t [] es → (filter (λ e. not (old e)) es ≡ es) × (filter old es ≡ [])
  none-among [] among = (refl, refl)
  none-among (e ∷ es) among =
      let rest = none-among es among.1 in
      let young = false_from_ne_true (old e) (λ is. absurd (among.0 is)) in
      (rw young (ap (λ fs. e ∷ fs) rest.0), rw young rest.1)

  -- ---- the units that stay for one

  pub young-units : (whom : Whom) (es : List Entry) → filter (stays clock t whom) (units_for whom es) ≡ units_for whom (filter (λ e. not (old e)) es)
  young-units whom [] = refl
  young-units whom (e ∷ es) = grind (arith, young-units whom es, too-old whom e)

-- ---- the last of some units

all-at : (P : DataUnit → Type 0) (us : List DataUnit) (k : ℕ) (u : DataUnit) → AllByRecursion P us → slice_get us k ≡ Some u → P u
all-at P [] k u all here = absurd (cc)
all-at P (v ∷ us) zero u all here = let same : v ≡ u = cc in subst P same all.0
all-at P (v ∷ us) (suc k) u all here = all-at P us k u all.1 here

-- where units came in order, and the last of them came before a clock, all did
pub last-stays : (limit : ℕ) (us : List DataUnit) (k : ℕ) (u : DataUnit) → CameInOrder us → k + 1 ≡ length us → slice_get us k ≡ Some u → leb limit u.at ≡ nat_lt 0 (length (filter (λ v. not (nat_lt v.at limit)) us))
last-stays limit [] k u order len here = absurd (omega (arith, len))
last-stays limit (v ∷ w ∷ us) zero u order len here = absurd (omega (arith, len))
last-stays limit (v ∷ []) zero u order len here = let same : v ≡ u = cc in grind (arith, nat_tests, ap (λ (x : DataUnit). x.at) same)
last-stays limit (v ∷ us) (suc k) u order len here =
    let rest = last-stays limit us k u order.1 (omega (arith, len)) here in
    grind (arith, nat_tests, rest, all-at (λ x. v.at ≤ x.at) us k u order.0 here)
