-- Who has units waiting: one station, and the others.
use Rattle.std.proofs.Common.{◌≡◌, ◌≢◌, ℕ, Bool, true, false, not, ◌||◌, ◌&&◌, List, [], ◌∷◌, ◌++◌, length, Option, Some, None, IfSome, is_some, refl, sym, ap, ◌∙◌, inl, inr, arith}
use Rattle.std.specs.Prelude.{◌==◌, nat_lt, nat_eq}
use Rattle.std.specs.FinSet as set
use Rattle.std.specs.FinSet.{FinSet}
use Rattle.std.specs.Ordering.{nat_cmp}
use Rattle.std.specs.Str.{bytes_eq}
use Rattle.std.proofs.lemmas.Bool.{both_ways, cases_Bool, cond_both, or_parts}
use Rattle.std.proofs.lemmas.Cmp.{nat_eq_equiv}
use Rattle.std.proofs.lemmas.Option.{none-some}
use Rattle.std.proofs.lemmas.Slice.Eq.{bytes_eq-Decides}
use borrow.Author.Tests.{eqb-true}
use Rattle.aid_pool.specs.LeastFree.{is_among}
use Rattle.tim.specs.Tim.{IsAid}
use Rattle.powersave.specs.Keep.{Entry, is_same, units_for}
use Rattle.powersave.specs.declared.unit.Whom.{Whom}
use Rattle.powersave.specs.declared.unit.Whom.TheVariants.{One, Group}
use Rattle.roster.specs.Keeping.{aid_for}
use Rattle.roster.specs.Roster.{AreWaitedFor, StayBeside, is_number, renumbered}
use Rattle.stations.specs.Changes.{OthersStay, IdentifiersDiffer}
use Rattle.stations.specs.Sound.{AreApart}
use Rattle.stations.specs.Stations.{Table, state_of, aid_of, aid_with, identifiers, identifier_of, AreIdentifiers, forget, set_mode, with_mode, changed}
use Rattle.roster.specs.KeptUnits.{has_aid, has_unit, is_waited_for}
use Rattle.stations.specs.declared.table.Change.{Change}
use Rattle.stations.specs.declared.table.Change.TheVariants as changes
use Rattle.station_state.specs.declared.state.StationState.{StationState}
use Rattle.station_state.specs.declared.state.StationState.TheVariants.{Authenticated, Associated}
use Rattle.roster.proofs.RosterAging.{same_whom}
use Rattle.roster.proofs.UnitsKept.{some-for}

abbrev pub Numbers : Type 0
Numbers = FinSet nat_cmp

-- ---- one station and the others

number-of : (l : StationState) (n : ℕ) → has_aid n l ≡ is_number (aid_with (Some l)) n
number-of Authenticated n = refl
number-of (Associated aid listen doze) n = refl

number-is : (o : Option ℕ) (n : ℕ) → is_number o n ≡ true → o ≡ Some n
number-is None n h = absurd (both_ways false refl h)
number-is (Some aid) n h = ap (λ (m : ℕ). Some m) (sym (eqb-true n aid h))

parted-here : (addr : List ℕ) (e : List ℕ × StationState) (kept : List Entry) (n : ℕ) (rest : Bool) → addr ≡ e.0 → ((has_aid n e.1 && has_unit e.0 kept) || rest) ≡ ((has_unit addr kept && is_number (aid_with (Some e.1)) n) || rest)
parted-here addr e kept n rest is = grind (arith, is, number-of e.1 n)

-- a number is waited for by one station or by the others
pub waited-parted : (addr : List ℕ) (t : Table) (kept : List Entry) (n : ℕ) → is_waited_for t kept n ≡ ((has_unit addr kept && is_number (aid_of addr t) n) || is_waited_for (forget addr t) kept n)
waited-parted addr [] kept n = grind arith
waited-parted addr (e ∷ t) kept n = elim (cases_Bool (bytes_eq addr e.0)) [
  | inl same ↦ rw same (parted-here addr e kept n (is_waited_for t kept n) ((bytes_eq-Decides addr e.0).0 same))
  | inr other ↦ rw other (grind (arith, waited-parted addr t kept n))
]

-- one that is no identifier isn't waited for
not-waited : (t : Table) (kept : List Entry) (n : ℕ) → is_among (identifiers t) n ≡ false → is_waited_for t kept n ≡ false
not-waited [] kept n h = refl
not-waited (e ∷ t) kept n h = by e.1 h (not-waited t kept n)
  where
    by : (l : StationState) → is_among (identifier_of l ++ identifiers t) n ≡ false → (is_among (identifiers t) n ≡ false → is_waited_for t kept n ≡ false) → ((has_aid n l && has_unit e.0 kept) || is_waited_for t kept n) ≡ false
    by Authenticated k later = later k
    by (Associated aid listen doze) k later =
        let both = or_parts (nat_eq aid n) (is_among (identifiers t) n) k in
        let other : (n == aid) ≡ false = nat_eq_equiv.symm n aid ∙ both.0 in
        rw other (later both.1)

-- the identifier of a station is no other's
pub rest-none : IdentifiersDiffer → (addr : List ℕ) (t : Table) (kept : List Entry) (aid : ℕ) → aid_of addr t ≡ Some aid → AreIdentifiers (identifiers t) → is_waited_for (forget addr t) kept aid ≡ false
rest-none differ addr t kept aid h sound = not-waited (forget addr t) kept aid (differ.rest addr t aid h sound)

-- the bits of a station that had one identifier and has another
abbrev pub AreShown : (before after : Option ℕ) → (waits : Bool) → (old new : Numbers) → Type 0
AreShown before after waits old new = (n : ℕ) → set.contains new n ≡ ((waits && is_number after n) || (not (is_number before n) && set.contains old n))

-- where the identifier of one station, or the units for it, changed, and its bits are changed so
pub waited-one : IdentifiersDiffer → (addr : List ℕ) (t u : Table) (before after : List Entry) (old new : Numbers) (waits : Bool) → AreIdentifiers (identifiers t)
    → ((n : ℕ) → is_waited_for (forget addr u) after n ≡ is_waited_for (forget addr t) before n)
    → waits ≡ nat_lt 0 (length (units_for (One addr) after))
    → AreShown (aid_of addr t) (aid_of addr u) waits old new → AreWaitedFor old t before → AreWaitedFor new u after
waited-one differ addr t u before after old new waits sound others is now told n aid =
    let has : has_unit addr after ≡ waits = some-for (One addr) after ∙ sym is in
    let left : (not (is_number (aid_of addr t) n) && set.contains old n) ≡ is_waited_for (forget addr t) before n = elim (cases_Bool (is_number (aid_of addr t) n)) [
      | inl here ↦ rw here (sym (rest-none differ addr t before n (number-is (aid_of addr t) n here) sound))
      | inr other ↦ grind (arith, other, told n aid, waited-parted addr t before n)
    ] in
    cc (now n, left, others n, waited-parted addr u after n)

-- ---- the units of one station change

one-apart : (a b : List ℕ) → bytes_eq a b ≡ false → One a ≢ One b
one-apart a b h e = let same : a ≡ b = cc in both_ways (bytes_eq a b) h ((bytes_eq-Decides a b).1 same)

unit-stays : (whom : Whom) (before after : List Entry) (b : List ℕ) → StayBeside whom before after → whom ≢ One b → has_unit b after ≡ has_unit b before
unit-stays whom before after b stay other =
    some-for (One b) after ∙ ap (λ us. nat_lt 0 (length us)) (stay (One b) other) ∙ sym (some-for (One b) before)

pub others-stay : (addr : List ℕ) (t : Table) (before after : List Entry) (n : ℕ) → state_of addr t ≡ None → StayBeside (One addr) before after → is_waited_for t after n ≡ is_waited_for t before n
others-stay addr [] before after n none stay = refl
others-stay addr (e ∷ t) before after n none stay = elim (cases_Bool (bytes_eq addr e.0)) [
  | inl same ↦ absurd (none-some e.1 (sym (rw same at none)))
  | inr other ↦ cc (unit-stays (One addr) before after e.0 stay (one-apart addr e.0 other), others-stay addr t before after n (rw other at none) stay)
]

-- the units for the group are nothing to it
pub group-waits_not : (t : Table) (before after : List Entry) (n : ℕ) → StayBeside Group before after → is_waited_for t after n ≡ is_waited_for t before n
group-waits_not [] before after n stay = refl
group-waits_not (e ∷ t) before after n stay = cc (unit-stays Group before after e.0 stay (λ h. absurd cc), group-waits_not t before after n stay)

-- the units for one changed, and its bit follows
pub followed : OthersStay → IdentifiersDiffer → (addr : List ℕ) (t : Table) (before after : List Entry) (old new : Numbers) (waits : Bool) → AreApart t → AreIdentifiers (identifiers t)
    → StayBeside (One addr) before after → waits ≡ nat_lt 0 (length (units_for (One addr) after))
    → AreShown (aid_of addr t) (aid_of addr t) waits old new → AreWaitedFor old t before → AreWaitedFor new t after
followed others differ addr t before after old new waits apart sound stay is now told =
    waited-one differ addr t t before after old new waits sound (λ n. others-stay addr (forget addr t) before after n (others.gone addr t apart) stay) is now told

-- where units for one left, and some stay, nothing of it changes
same-waiting : (whom : Whom) (t : Table) (before after : List Entry) (n : ℕ) → StayBeside whom before after → nat_lt 0 (length (units_for whom before)) ≡ true → nat_lt 0 (length (units_for whom after)) ≡ true
    → is_waited_for t after n ≡ is_waited_for t before n
same-waiting whom [] before after n stay some left = refl
same-waiting whom (e ∷ t) before after n stay some left = cc (has, same-waiting whom t before after n stay some left)
  where
    has : has_unit e.0 after ≡ has_unit e.0 before
    has = elim (cases_Bool (is_same whom (One e.0))) [
      | inl is ↦ cc (same_whom whom (One e.0) is, some-for (One e.0) after, some-for (One e.0) before)
      | inr other ↦ unit-stays whom before after e.0 stay (λ is. absurd (cc (rw is at other, (bytes_eq-Decides e.0 e.0).1 refl)))
    ]

pub still-shown : (whom : Whom) (t : Table) (before after : List Entry) (numbers : Numbers) → StayBeside whom before after → (nat_lt 0 (length (units_for whom after)) ≡ true → nat_lt 0 (length (units_for whom before)) ≡ true)
    → nat_lt 0 (length (units_for whom after)) ≡ true → AreWaitedFor numbers t before → AreWaitedFor numbers t after
still-shown whom t before after numbers stay some left told = λ n aid. told n aid ∙ sym (same-waiting whom t before after n stay (some left) left)

-- a unit came for one, and its bit is set

set-is_shown : (a b : Bool) → (a || b) ≡ ((true && a) || (not a && b))
set-is_shown true b = refl
set-is_shown false b = refl

pub put-followed : OthersStay → IdentifiersDiffer → (whom : Whom) (t : Table) (before after : List Entry) (old new : Numbers) (aid : Option ℕ) → AreApart t → AreIdentifiers (identifiers t)
    → StayBeside whom before after → true ≡ nat_lt 0 (length (units_for whom after)) → aid ≡ aid_for whom t
    → ((n : ℕ) → set.contains new n ≡ (is_number aid n || set.contains old n)) → AreWaitedFor old t before → AreWaitedFor new t after
put-followed others differ (One addr) t before after old new aid apart sound stay some is now told =
    followed others differ addr t before after old new true apart sound stay some (λ n. rw is at (now n) ∙ set-is_shown (is_number (aid_of addr t) n) (set.contains old n)) told
put-followed others differ Group t before after old new aid apart sound stay some is now told = λ n among. rw is at (now n) ∙ told n among ∙ sym (group-waits_not t before after n stay)

pub identifier-range : IdentifiersDiffer → (whom : Whom) (t : Table) (o : Option ℕ) → o ≡ aid_for whom t → AreIdentifiers (identifiers t) → IfSome o IsAid
identifier-range differ whom t None is sound = tt
identifier-range differ (One addr) t (Some aid) is sound = differ.range addr t aid (sym is) sound
identifier-range differ Group t (Some aid) is sound = absurd (cc)

-- ---- one station changes

-- the others stay
pub forgotten-changed : OthersStay → (change : Change) (addr : List ℕ) (t : Table) → renumbered change ≡ Some addr → AreApart t → forget addr (changed change t) ≡ forget addr t
forgotten-changed others changes.Nothing addr t is apart = absurd (cc)
forgotten-changed others (changes.Authenticate a) addr t is apart = let same : a ≡ addr = cc in rw same (others.rest_set addr Authenticated t)
forgotten-changed others (changes.Associate a listen) addr t is apart = let same : a ≡ addr = cc in rw same (others.rest_set addr _ t)
forgotten-changed others (changes.Disassociate a) addr t is apart =
    let same : a ≡ addr = cc in
    rw same (cond_both (is_some (aid_of addr t)) _ _ (λ u. forget addr u ≡ forget addr t) (λ _. others.rest_set addr Authenticated t) (λ _. refl))
forgotten-changed others (changes.Forget a) addr t is apart = let same : a ≡ addr = cc in rw same (others.rest_forgotten addr t apart)
forgotten-changed others (changes.SetMode a doze) addr t is apart = absurd (cc)

same-aid : (doze : Bool) (l : StationState) (n : ℕ) → has_aid n (with_mode doze l) ≡ has_aid n l
same-aid doze Authenticated n = refl
same-aid doze (Associated aid listen before) n = refl

waited-moded : (a : List ℕ) (doze : Bool) (t : Table) (kept : List Entry) (n : ℕ) → is_waited_for (set_mode a doze t) kept n ≡ is_waited_for t kept n
waited-moded a doze [] kept n = refl
waited-moded a doze (e ∷ t) kept n = grind (arith, waited-moded a doze t kept n, same-aid doze e.1 n)

-- a mode is nothing to it
pub waited-renumbered_not : (change : Change) (t : Table) (kept : List Entry) (n : ℕ) → renumbered change ≡ None → is_waited_for (changed change t) kept n ≡ is_waited_for t kept n
waited-renumbered_not changes.Nothing t kept n is = refl
waited-renumbered_not (changes.Authenticate a) t kept n is = absurd (cc)
waited-renumbered_not (changes.Associate a listen) t kept n is = absurd (cc)
waited-renumbered_not (changes.Disassociate a) t kept n is = absurd (cc)
waited-renumbered_not (changes.Forget a) t kept n is = absurd (cc)
waited-renumbered_not (changes.SetMode a doze) t kept n is = waited-moded a doze t kept n
