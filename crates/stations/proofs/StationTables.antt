-- One station of a table is changed: what becomes of the identifiers.
use Rattle.std.proofs.Common.{◌≡◌, ℕ, ◌+◌, ◌-◌, ◌<◌, ◌≤◌, Bool, true, false, not, ◌&&◌, ◌||◌, nat_eq, List, [], ◌∷◌, ◌++◌, length, Option, Some, None, ◌≢◌, ◌↔◌, refl, sym, ap, subst, ◌∙◌, arith, is_some, inl, inr}
use Rattle.std.specs.Prelude.{nat_lt, IsNone, IfSome, IfNone}
use Rattle.std.proofs.lemmas.Bool.{lt-ltb, le-ltb, eq-eqb, ne_eqb, cases_eq, cases_Bool, both_ways, or_parts, or_from}
use Rattle.std.proofs.lemmas.Bool.Decides.{nat_tests}
use Rattle.std.proofs.lemmas.List.{length-append, append-nil}
use Rattle.std.specs.Ordering.{nat_cmp}
use Rattle.std.specs.Cmp.{nat_cmp_total, unsigned_tied}
use Rattle.std.specs.FinSet as set
use Rattle.std.specs.FinSet.{FinSet, contains-empty, len-empty, contains-insert, contains-remove, len-insert, len-remove}
use borrow.Author.Tests.{eqb-true}
use Rattle.address_map.specs.Entries.{with_entry}
use Rattle.stations.specs.StationsKept.{AreOut, dozing_count}
use Rattle.std.specs.Int.{from_bool}
use Rattle.std.specs.Map.{set_value}
use Rattle.std.specs.Str.{bytes_eq}
use Rattle.aid_pool.specs.LeastFree.{is_among, least_free, IsLeastFree}
use Rattle.stations.specs.Stations.{Table, state_of, identifier_of, identifiers, aid_with, aid_of, AreIdentifiers, set_state, forget, set_mode, with_mode, dozes, is_dozing, some_station_dozes, changed, IsModeAlone, StationTable, with_table}
use Rattle.stations.specs.declared.table.Change.{Change}
use Rattle.stations.specs.declared.table.Change.TheVariants.{Nothing, Authenticate, Associate, Disassociate, Forget, SetMode}
use Rattle.station_state.specs.declared.state.StationState.{StationState}
use Rattle.station_state.specs.declared.state.StationState.TheVariants.{Authenticated, Associated}

abbrev pub Numbers : Type 0
Numbers = FinSet nat_cmp

-- ---- a number among others

pub is_among-at : (p q : List ℕ) (i n : ℕ) → is_among (p ++ i ∷ q) n ≡ (nat_eq i n || is_among (p ++ q) n)
is_among-at [] q i n = refl
is_among-at (m ∷ p) q i n = grind (arith, is_among-at p q i n)

pub eqb-flip : (a b : ℕ) → nat_eq a b ≡ nat_eq b a
eqb-flip a b = elim (cases_eq a b) [ inl same ↦ rw same refl | inr other ↦ ne_eqb a b other ∙ sym (ne_eqb b a (λ e. other (sym e))) ]

-- one number less
pub without : (p q : List ℕ) (i : ℕ) → AreIdentifiers (p ++ i ∷ q) → AreIdentifiers (p ++ q) × (is_among (p ++ q) i ≡ false)
without [] q i h = (h.3, h.2)
without (m ∷ p) q i h =
    let rest = without p q i h.3 in
    let other = or_parts (nat_eq i m) (is_among (p ++ q) m) (sym (is_among-at p q i m) ∙ h.2) in
    ((h.0, h.1, other.1, rest.0), or_from (nat_eq m i) (is_among (p ++ q) i) (eqb-flip m i ∙ other.0) rest.1)

-- one number more
pub within : (p q : List ℕ) (i : ℕ) → 1 ≤ i → i ≤ 2007 → AreIdentifiers (p ++ q) → is_among (p ++ q) i ≡ false → AreIdentifiers (p ++ i ∷ q)
within [] q i first last h new = (first, last, new, h)
within (m ∷ p) q i first last h new =
    let other = or_parts (nat_eq m i) (is_among (p ++ q) i) new in
    (h.0, h.1, is_among-at p q i m ∙ or_from (nat_eq i m) (is_among (p ++ q) m) (eqb-flip i m ∙ other.0) h.2, within p q i first last h.3 other.1)

-- ---- a known station among the others

append_assoc_of : (l : StationState) (p q : List ℕ) → identifier_of l ++ (p ++ q) ≡ (identifier_of l ++ p) ++ q
append_assoc_of Authenticated p q = refl
append_assoc_of (Associated aid listen doze) p q = refl

pub identifiers-append : (s t : Table) → identifiers (s ++ t) ≡ identifiers s ++ identifiers t
identifiers-append [] t = refl
identifiers-append (e ∷ s) t = ap (λ ns. identifier_of e.1 ++ ns) (identifiers-append s t) ∙ append_assoc_of e.1 (identifiers s) (identifiers t)

-- the numbers before and after that of a station
pub record IsParted (addr : List ℕ) (state : StationState) (t : Table) (p q : List ℕ) : Type 0 where
  pub whole : identifiers t ≡ p ++ (identifier_of state ++ q)
  pub changed : (l : StationState) → identifiers (set_state addr l t) ≡ p ++ (identifier_of l ++ q)
  pub removed : identifiers (forget addr t) ≡ p ++ q

parted-here : (addr : List ℕ) (state : StationState) (e : List ℕ × StationState) (t : Table) → bytes_eq addr e.0 ≡ true → e.1 ≡ state → IsParted addr state (e ∷ t) [] (identifiers t)
parted-here addr state e t same is = record { whole = ap (λ l. identifier_of l ++ identifiers t) is; changed = λ l. rw same refl; removed = rw same refl }

parted-later : (addr : List ℕ) (state : StationState) (e : List ℕ × StationState) (t : Table) (p q : List ℕ) → bytes_eq addr e.0 ≡ false → IsParted addr state t p q → IsParted addr state (e ∷ t) (identifier_of e.1 ++ p) q
parted-later addr state e t p q other r = record {
  whole = ap (λ ns. identifier_of e.1 ++ ns) r.whole ∙ append_assoc_of e.1 p (identifier_of state ++ q);
  changed = λ l. rw other (ap (λ ns. identifier_of e.1 ++ ns) (r.changed l) ∙ append_assoc_of e.1 p (identifier_of l ++ q));
  removed = rw other (ap (λ ns. identifier_of e.1 ++ ns) r.removed ∙ append_assoc_of e.1 p q);
}

pub parted : (addr : List ℕ) (state : StationState) (t : Table) → state_of addr t ≡ Some state → (p : List ℕ) × (q : List ℕ) × IsParted addr state t p q
parted addr state [] h = absurd (cc)
parted addr state (e ∷ t) h = elim (cases_Bool (bytes_eq addr e.0)) [
  | inl same ↦ let is : Some e.1 ≡ Some state = rw same at h in ([], identifiers t, parted-here addr state e t same cc)
  | inr other ↦
      let rest = parted addr state t (rw other at h) in
      (identifier_of e.1 ++ rest.0, rest.1, parted-later addr state e t rest.0 rest.1 other rest.2)
]

-- ---- an unknown station

pub set_state-unknown : (addr : List ℕ) (state : StationState) (t : Table) → state_of addr t ≡ None → set_state addr state t ≡ t ++ (addr, state) ∷ []
set_state-unknown addr state [] h = refl
set_state-unknown addr state (e ∷ t) h = grind (arith, h, set_state-unknown addr state t)

pub forget-unknown : (addr : List ℕ) (t : Table) → state_of addr t ≡ None → forget addr t ≡ t
forget-unknown addr [] h = refl
forget-unknown addr (e ∷ t) h = grind (arith, h, forget-unknown addr t)

-- ---- what the station's identifier says

pub state_of-associated : (addr : List ℕ) (t : Table) (aid : ℕ) → aid_of addr t ≡ Some aid → (state : StationState) × (state_of addr t ≡ Some state) × (identifier_of state ≡ aid ∷ [])
state_of-associated addr t aid h = by (state_of addr t) refl h
  where
    by : (l : Option StationState) → state_of addr t ≡ l → aid_with l ≡ Some aid → (state : StationState) × (state_of addr t ≡ Some state) × (identifier_of state ≡ aid ∷ [])
    by None is e = absurd (cc)
    by (Some Authenticated) is e = absurd (cc)
    by (Some (Associated n listen doze)) is e = (Associated n listen doze, is, cc)

-- the numbers of a table in which an associated station gets another state
pub numbers-of_associated : (addr : List ℕ) (t : Table) (aid : ℕ) → aid_of addr t ≡ Some aid
    → (p : List ℕ) × (q : List ℕ) × (identifiers t ≡ p ++ aid ∷ q) × ((l : StationState) → identifiers (set_state addr l t) ≡ p ++ (identifier_of l ++ q)) × (identifiers (forget addr t) ≡ p ++ q)
numbers-of_associated addr t aid h =
    let found = state_of-associated addr t aid h in
    let parts = parted addr found.0 t found.1 in
    let p = parts.0 in
    let q = parts.1 in
    (p, q, parts.2.whole ∙ ap (λ ns. p ++ (ns ++ q)) found.2, parts.2.changed, parts.2.removed)

-- which is no other's
pub rest-apart : (addr : List ℕ) (t : Table) (aid : ℕ) → aid_of addr t ≡ Some aid → AreIdentifiers (identifiers t) → is_among (identifiers (forget addr t)) aid ≡ false
rest-apart addr t aid h sound =
    let n = numbers-of_associated addr t aid h in
    ap (λ ns. is_among ns aid) n.4 ∙ (without n.0 n.1 aid (subst AreIdentifiers n.2 sound)).1

-- and stands among all
pub own-among : (addr : List ℕ) (t : Table) (aid : ℕ) → aid_of addr t ≡ Some aid → is_among (identifiers t) aid ≡ true
own-among addr t aid h =
    let n = numbers-of_associated addr t aid h in
    ap (λ ns. is_among ns aid) n.2 ∙ is_among-at n.0 n.1 aid aid ∙ rw (eq-eqb aid aid refl) refl

-- ---- a station that is not associated has no number

pub numbers-kept : (addr : List ℕ) (t : Table) → aid_of addr t ≡ None → (identifiers (set_state addr Authenticated t) ≡ identifiers t) × (identifiers (forget addr t) ≡ identifiers t)
numbers-kept addr t h = by (state_of addr t) refl h
  where
    by : (l : Option StationState) → state_of addr t ≡ l → aid_with l ≡ None → (identifiers (set_state addr Authenticated t) ≡ identifiers t) × (identifiers (forget addr t) ≡ identifiers t)
    by None is e =
        (cc (set_state-unknown addr Authenticated t is, identifiers-append t ((addr, Authenticated) ∷ []), append-nil (identifiers t)), ap identifiers (forget-unknown addr t is))
    by (Some Authenticated) is e = let parts = parted addr Authenticated t is in (cc (parts.2.changed Authenticated), cc parts.2.removed)
    by (Some (Associated n listen doze)) is e = absurd (cc)

-- ---- the pool

-- the numbers of a set, one at a time
pub contains_inserted : (s : Numbers) (k n : ℕ) → set.contains (set.insert s k) n ≡ (nat_eq n k || set.contains s n)
contains_inserted s k n = contains-insert nat_cmp_total s k n ∙ ap (λ b. b || set.contains s n) (unsigned_tied n k)

pub contains_removed : (s : Numbers) (k n : ℕ) → set.contains (set.remove s k) n ≡ (not (nat_eq n k) && set.contains s n)
contains_removed s k n = contains-remove nat_cmp_total s k n ∙ ap (λ b. not b && set.contains s n) (unsigned_tied n k)

removed_bit : (a b c d : Bool) → (a ≡ true → c ≡ false) → b ≡ (d || c) → a ≡ d → (not a && b) ≡ c
removed_bit true b c d none whole same = sym (none refl)
removed_bit false b c true none whole same = absurd (both_ways false refl same)
removed_bit false b c false none whole same = whole

pub out-removed : (most : ℕ) (out : Numbers) (p q : List ℕ) (i : ℕ) → AreOut most out (p ++ i ∷ q) → AreOut most (set.remove out i) (p ++ q)
out-removed most out p q i h =
    let parts = without p q i h.sound in
    let there : set.contains out i ≡ true = h.numbers i ∙ is_among-at p q i i ∙ rw (eq-eqb i i refl) refl in
    record {
      numbers = λ n.
          contains_removed out i n
          ∙ removed_bit (nat_eq n i) (set.contains out n) (is_among (p ++ q) n) (nat_eq i n)
          (λ e. subst (λ m. is_among (p ++ q) m ≡ false) (sym (eqb-true n i e)) parts.1)
          (h.numbers n ∙ is_among-at p q i n) (eqb-flip n i);
      count =
          let fewer : set.len (set.remove out i) ≡ set.len out - 1 = len-remove nat_cmp_total out i ∙ rw there refl in
          omega (arith, fewer, h.count, length-append p (i ∷ q), length-append p q);
      few = omega (arith, h.few, length-append p (i ∷ q), length-append p q);
      sound = parts.0;
    }

pub out-inserted : (most : ℕ) (out : Numbers) (p q : List ℕ) (i : ℕ) → 1 ≤ i → i ≤ 2007 → set.contains out i ≡ false → set.len out < most → AreOut most out (p ++ q) → AreOut most (set.insert out i) (p ++ i ∷ q)
out-inserted most out p q i first last free room h = record {
  numbers = λ n. contains_inserted out i n ∙ ap (λ b. b || set.contains out n) (eqb-flip n i) ∙ ap (λ b. nat_eq i n || b) (h.numbers n) ∙ sym (is_among-at p q i n);
  count =
      let more : set.len (set.insert out i) ≡ set.len out + 1 = len-insert nat_cmp_total out i ∙ rw free refl in
      omega (arith, more, h.count, length-append p (i ∷ q), length-append p q);
  few = omega (arith, room, h.count, length-append p (i ∷ q), length-append p q);
  sound = within p q i first last h.sound (sym (h.numbers i) ∙ free);
}

-- ---- the pool after a change of one station

pub out-of_associated : (most : ℕ) (out : Numbers) (addr : List ℕ) (t : Table) (aid : ℕ) → aid_of addr t ≡ Some aid → AreOut most out (identifiers t) → set.contains out aid ≡ true
out-of_associated most out addr t aid h o = o.numbers aid ∙ own-among addr t aid h

pub out-freed : (most : ℕ) (out : Numbers) (addr : List ℕ) (t : Table) (aid : ℕ) → aid_of addr t ≡ Some aid → AreOut most out (identifiers t) → AreOut most (set.remove out aid) (identifiers (set_state addr Authenticated t)) × AreOut most (set.remove out aid) (identifiers (forget addr t))
out-freed most out addr t aid h o =
    let n = numbers-of_associated addr t aid h in
    let less = out-removed most out n.0 n.1 aid (subst (AreOut most out) n.2 o) in
    (subst (AreOut most (set.remove out aid)) (sym (n.3 Authenticated)) less, subst (AreOut most (set.remove out aid)) (sym n.4) less)

pub out-kept : (most : ℕ) (out : Numbers) (addr : List ℕ) (t : Table) → aid_of addr t ≡ None → AreOut most out (identifiers t) → AreOut most out (identifiers (set_state addr Authenticated t)) × AreOut most out (identifiers (forget addr t))
out-kept most out addr t h o =
    let n = numbers-kept addr t h in
    (subst (AreOut most out) (sym n.0) o, subst (AreOut most out) (sym n.1) o)

pub out-associated_again : (most : ℕ) (out : Numbers) (addr : List ℕ) (t : Table) (aid listen : ℕ) (doze : Bool) → aid_of addr t ≡ Some aid → AreOut most out (identifiers t) → AreOut most out (identifiers (set_state addr (Associated aid listen doze) t))
out-associated_again most out addr t aid listen doze h o =
    let n = numbers-of_associated addr t aid h in
    subst (AreOut most out) (n.2 ∙ sym (n.3 (Associated aid listen doze))) o

pub out-associated : (most : ℕ) (out : Numbers) (addr : List ℕ) (t : Table) (aid listen : ℕ) (doze : Bool) → state_of addr t ≡ Some Authenticated → IsLeastFree (set.contains out) aid → set.len out < most → AreOut most out (identifiers t) → AreOut most (set.insert out aid) (identifiers (set_state addr (Associated aid listen doze) t))
out-associated most out addr t aid listen doze h least room o =
    let n = parted addr Authenticated t h in
    let more = out-inserted most out n.0 n.1 aid least.first least.last least.free room (subst (AreOut most out) n.2.whole o) in
    subst (AreOut most (set.insert out aid)) (sym (n.2.changed (Associated aid listen doze))) more

-- the least number that is free of the pool is so of the table
pub least-of_out : (most : ℕ) (out : Numbers) (ns : List ℕ) → AreOut most out ns → least_free (set.contains out) ≡ least_free (is_among ns)
least-of_out most out ns o = let same : set.contains out ≡ is_among ns = λ i n. o.numbers n i in ap least_free same

-- the numbers of associated stations are in their range
pub in_range : (p q : List ℕ) (i : ℕ) → AreIdentifiers (p ++ i ∷ q) → (1 ≤ i) × (i ≤ 2007)
in_range [] q i h = (h.0, h.1)
in_range (m ∷ p) q i h = in_range p q i h.3

pub range-of_associated : (addr : List ℕ) (t : Table) (aid : ℕ) → aid_of addr t ≡ Some aid → AreIdentifiers (identifiers t) → (1 ≤ aid) × (aid ≤ 2007)
range-of_associated addr t aid h o = let n = numbers-of_associated addr t aid h in in_range n.0 n.1 aid (subst AreIdentifiers n.2 o)

-- ---- the map's words

pub with_entry-is_set_state : (addr : List ℕ) (state : StationState) (t : Table) → with_entry addr state t ≡ set_state addr state t
with_entry-is_set_state addr state [] = refl
with_entry-is_set_state addr state (e ∷ t) = cc (with_entry-is_set_state addr state t)

pub set_value-is_set_state : (addr : List ℕ) (state : StationState) (t : Table) → is_some (state_of addr t) ≡ true → set_value (bytes_eq addr) t state ≡ set_state addr state t
set_value-is_set_state addr state [] h = absurd (cc)
set_value-is_set_state addr state (e ∷ t) h = grind (arith, h, set_value-is_set_state addr state t)

pub no-numbers : (most : ℕ) → AreOut most set.empty []
no-numbers most = record { numbers = λ n. contains-empty nat_cmp n; count = len-empty nat_cmp; few = omega arith; sound = tt }

-- the stations as contracts see them, after a change
abbrev pub stations : ℕ → Table → StationTable
stations most table = record { most = most; table = table }

pub changed_table : (f : Table → Table) (most : ℕ) (old new : Table) (s : StationTable) → stations most old ≡ s → new ≡ f old → stations most new ≡ with_table s (f s.table)
changed_table f most old new s is change = ap (stations most) change ∙ ap (λ (k : StationTable). stations k.most (f k.table)) is

-- a station that is known and has no number is authenticated
pub authenticated-where : (addr : List ℕ) (t : Table) → is_some (state_of addr t) ≡ true → aid_of addr t ≡ None → state_of addr t ≡ Some Authenticated
authenticated-where addr t known none = grind (arith, known, none)

-- a number is free exactly where fewer are out than may be
pub room-where : (most : ℕ) (out : Numbers) (ns : List ℕ) (least : Option ℕ) → (IsNone least ↔ (set.len out ≡ most)) → AreOut most out ns → is_some least ≡ nat_lt (length ns) most
room-where most out ns None h o = sym (le-ltb (length ns) most (omega (arith, h.0 refl, o.count)))
room-where most out ns (Some aid) h o =
    let some : set.len out ≢ most = λ e. absurd (cc (h.1 e)) in
    sym (lt-ltb (length ns) most (omega (arith, some, o.count, o.few)))

-- ---- how many doze

-- of a station's state
abbrev pub dozing_at : List ℕ → Table → ℕ
dozing_at addr t = from_bool (is_dozing addr t)

pub dozing-set : (addr : List ℕ) (state : StationState) (t : Table) → dozing_count (set_state addr state t) + dozing_at addr t ≡ dozing_count t + from_bool (dozes state)
dozing-set addr state [] = omega arith
dozing-set addr state (e ∷ t) = grind (arith, dozing-set addr state t)

-- a station that dozes is counted
pub dozing-at_most : (addr : List ℕ) (t : Table) → dozing_at addr t ≤ dozing_count t
dozing-at_most addr t = omega (arith, dozing-set addr Authenticated t)

pub dozing-forgotten : (addr : List ℕ) (t : Table) → dozing_count (forget addr t) + dozing_at addr t ≡ dozing_count t
dozing-forgotten addr [] = refl
dozing-forgotten addr (e ∷ t) = grind (arith, dozing-forgotten addr t)

-- the mode of a known station is set by its state
pub set_mode-is_set_state : (addr : List ℕ) (doze : Bool) (state : StationState) (t : Table) → state_of addr t ≡ Some state → set_mode addr doze t ≡ set_state addr (with_mode doze state) t
set_mode-is_set_state addr doze state [] h = absurd (cc)
set_mode-is_set_state addr doze state (e ∷ t) h = grind (arith, h, set_mode-is_set_state addr doze state t)

pub set_mode-unknown : (addr : List ℕ) (doze : Bool) (t : Table) → state_of addr t ≡ None → set_mode addr doze t ≡ t
set_mode-unknown addr doze [] h = refl
set_mode-unknown addr doze (e ∷ t) h = grind (arith, h, set_mode-unknown addr doze t)

-- the state of a station is what the mode makes of it, where it is known
pub set_mode-by : (By : StationState → StationState → Type 0) (addr : List ℕ) (doze : Bool) (t new : Table) (known : Option StationState)
    → ((before after : StationState) → By before after → after ≡ with_mode doze before) → known ≡ state_of addr t
    → IfSome known (λ before. (after : StationState) × By before after × (new ≡ set_value (bytes_eq addr) t after)) → IfNone known (new ≡ t) → new ≡ set_mode addr doze t
set_mode-by By addr doze t new None makes is some none = none ∙ sym (set_mode-unknown addr doze t (sym is))
set_mode-by By addr doze t new (Some before) makes is some none =
    some.2 ∙ set_value-is_set_state addr some.0 t (ap is_some (sym is)) ∙ ap (λ (state : StationState). set_state addr state t) (makes before some.0 some.1)
    ∙ sym (set_mode-is_set_state addr doze before t (sym is))

-- some station dozes exactly where the count isn't 0
pub some-dozes : (t : Table) → some_station_dozes t ≡ nat_lt 0 (dozing_count t)
some-dozes [] = refl
some-dozes (e ∷ t) = grind (arith, some-dozes t, nat_tests)

-- whoever dozes is associated
pub dozing-few : (t : Table) → dozing_count t ≤ length (identifiers t)
dozing-few [] = omega arith
dozing-few (e ∷ t) = grind (arith, dozing-few t, length-append (identifier_of e.1) (identifiers t))

pub dozing-moded : (addr : List ℕ) (doze : Bool) (t : Table) → dozing_count (set_mode addr doze t) + dozing_at addr t ≡ dozing_count t + dozing_at addr (set_mode addr doze t)
dozing-moded addr doze [] = refl
dozing-moded addr doze (e ∷ t) = grind (arith, dozing-moded addr doze t)

-- a change that sets no mode, where no other change is allowed
pub nothing-changes : (change : Change) (t : Table) → IsModeAlone change → ((a : List ℕ) (doze : Bool) → change ≡ SetMode a doze → ⊥) → changed change t ≡ t
nothing-changes Nothing t alone other = refl
nothing-changes (Authenticate a) t alone other = absurd alone
nothing-changes (Associate a listen) t alone other = absurd alone
nothing-changes (Disassociate a) t alone other = absurd alone
nothing-changes (Forget a) t alone other = absurd alone
nothing-changes (SetMode a doze) t alone other = absurd (other a doze refl)

-- one that dozes is among those that doze
pub dozes-some : (addr : List ℕ) (t : Table) → is_dozing addr t ≡ true → some_station_dozes t ≡ true
dozes-some addr t h =
    let one : dozing_at addr t ≡ 1 = ap from_bool h in
    some-dozes t ∙ lt-ltb 0 (dozing_count t) (omega (arith, one, dozing-at_most addr t))

-- once one is active, another dozes exactly where more dozed than it
pub other-dozes : (addr : List ℕ) (doze : Bool) (t : Table) → is_dozing addr (set_mode addr doze t) ≡ false → nat_lt (dozing_at addr t) (dozing_count t) ≡ some_station_dozes (set_mode addr doze t)
other-dozes addr doze t h =
    grind (arith, nat_tests, ap from_bool h, dozing-moded addr doze t, some-dozes (set_mode addr doze t))

-- ---- the identifier of the station at a place
