-- A station that is restored: why it isn't, what becomes of the identifiers, and how it might have come.
use Rattle.std.proofs.Common.{◌≡◌, ℕ, ◌+◌, ◌<◌, ◌≤◌, Bool, true, false, List, [], ◌∷◌, ◌++◌, length, Option, Some, None, refl, sym, ap, subst, ◌∙◌, arith, is_some, inl, inr}
use Rattle.std.specs.Prelude.{nat_le}
use Rattle.std.proofs.lemmas.Bool.{cases_Bool, both_ways}
use Rattle.std.proofs.lemmas.Bool.Decides.{nat_tests}
use Rattle.std.proofs.lemmas.Cmp.{nat_list_eq_equiv}
use Rattle.std.proofs.lemmas.List.{append-nil, length-append}
use Rattle.std.specs.FinSet as set
use Rattle.std.specs.Int.{from_bool}
use Rattle.aid_pool.specs.LeastFree.{is_among}
use Rattle.aid_pool.specs.Taking.{MayBeTaken}
use Rattle.address_map.specs.Entries.{StayApart}
use Rattle.stations.specs.Stations.{Table, state_of, aid_with, dozes_with, identifier_of, identifiers, AreIdentifiers, next_aid, set_state, authenticate, associate, set_mode, dozes}
use Rattle.stations.specs.StationsKept.{AreOut, dozing_count}
use Rattle.stations.specs.Sound.{AreApart, AreSound}
use Rattle.stations.specs.Restoring.{state_fault, restore_fault, restored}
use Rattle.stations.specs.declared.restoring.RestoreFault.TheVariants.{Known, Full}
use Rattle.station_state.specs.declared.state.StationState.{StationState}
use Rattle.station_state.specs.declared.state.StationState.TheVariants.{Authenticated, Associated}
use Rattle.stations.proofs.StationTables.{Numbers, within, out-inserted, set_state-unknown, identifiers-append, dozing_at, dozing-set, with_entry-is_set_state}

-- ---- what may be restored

-- no more are associated than may be, and the identifier is free
pub record IsTakeable (most aid : ℕ) (t : Table) : Type 0 where
  pub room : length (identifiers t) < most
  pub first : 1 ≤ aid
  pub last : aid ≤ 2007
  pub free : is_among (identifiers t) aid ≡ false

takeable-where : (most aid listen : ℕ) (doze : Bool) (t : Table) → state_fault most (Associated aid listen doze) t ≡ None → IsTakeable most aid t
takeable-where most aid listen doze t none = record {
  room = grind (arith, nat_tests, none);
  first = grind (arith, nat_tests, none);
  last = grind (arith, nat_tests, none);
  free = grind (arith, nat_tests, none);
}

pub takeable : (most aid : ℕ) (state : StationState) (t : Table) → aid_with (Some state) ≡ Some aid → state_fault most state t ≡ None → IsTakeable most aid t
takeable most aid Authenticated t has none = absurd (cc)
takeable most aid (Associated n listen doze) t has none =
    let same : n ≡ aid = cc in
    subst (λ m. IsTakeable most m t) same (takeable-where most n listen doze t none)

pub may_be_taken : (most : ℕ) (out : Numbers) (aid : ℕ) (t : Table) → IsTakeable most aid t → AreOut most out (identifiers t) → MayBeTaken aid (record { most = most; out = out })
may_be_taken most out aid t may o = record {
  first = may.first;
  last = may.last;
  free = o.numbers aid ∙ may.free;
  room = omega (arith, may.room, o.count);
}

-- ---- the identifiers then

numbers-last : (state : StationState) (ns ms : List ℕ) → identifier_of state ≡ ms → ns ++ (identifier_of state ++ []) ≡ ns ++ ms
numbers-last state ns ms is = ap (λ k. ns ++ (k ++ [])) is ∙ ap (λ k. ns ++ k) (append-nil ms)

numbers-restored : (addr : List ℕ) (state : StationState) (t : Table) (ms : List ℕ) → state_of addr t ≡ None → identifier_of state ≡ ms → identifiers (restored addr state t) ≡ identifiers t ++ ms
numbers-restored addr state t ms unknown is =
    ap identifiers (set_state-unknown addr state t unknown) ∙ identifiers-append t ((addr, state) ∷ []) ∙ numbers-last state (identifiers t) ms is

number-of : (state : StationState) (aid : ℕ) → aid_with (Some state) ≡ Some aid → identifier_of state ≡ aid ∷ []
number-of Authenticated aid has = absurd (cc)
number-of (Associated n listen doze) aid has = cc

no-number : (state : StationState) → aid_with (Some state) ≡ None → identifier_of state ≡ []
no-number Authenticated none = refl
no-number (Associated n listen doze) none = absurd (cc)

pub out-restored : (most : ℕ) (out : Numbers) (addr : List ℕ) (state : StationState) (t : Table) (aid : ℕ) → state_of addr t ≡ None → aid_with (Some state) ≡ Some aid → IsTakeable most aid t → AreOut most out (identifiers t) → AreOut most (set.insert out aid) (identifiers (restored addr state t))
out-restored most out addr state t aid unknown has may o =
    let taken = may_be_taken most out aid t may o in
    let more = out-inserted most out (identifiers t) [] aid taken.first taken.last taken.free taken.room (subst (AreOut most out) (sym (append-nil (identifiers t))) o) in
    subst (AreOut most (set.insert out aid)) (sym (numbers-restored addr state t (aid ∷ []) unknown (number-of state aid has))) more

pub out-restored_none : (most : ℕ) (out : Numbers) (addr : List ℕ) (state : StationState) (t : Table) → state_of addr t ≡ None → aid_with (Some state) ≡ None → AreOut most out (identifiers t) → AreOut most out (identifiers (restored addr state t))
out-restored_none most out addr state t unknown none o =
    subst (AreOut most out) (sym (numbers-restored addr state t [] unknown (no-number state none) ∙ append-nil (identifiers t))) o

-- and how many doze
pub one_at_most : (b : Bool) → from_bool b ≤ 1
one_at_most true = omega arith
one_at_most false = omega arith

pub dozing-restored : (addr : List ℕ) (state : StationState) (t : Table) → state_of addr t ≡ None → dozing_count (restored addr state t) ≡ dozing_count t + from_bool (dozes state)
dozing-restored addr state t unknown =
    let none : dozing_at addr t ≡ 0 = ap (λ s. from_bool (dozes_with s)) unknown in
    omega (arith, none, dozing-set addr state t)

-- ---- the first fault

pub record MayCome (most : ℕ) (addr : List ℕ) (state : StationState) (t : Table) : Type 0 where
  pub unknown : state_of addr t ≡ None
  pub may : state_fault most state t ≡ None

unknown-where : (s : Option StationState) → is_some s ≡ false → s ≡ None
unknown-where None h = refl
unknown-where (Some state) h = absurd (both_ways true h refl)

pub may_come : (most known : ℕ) (addr : List ℕ) (state : StationState) (t : Table) → restore_fault most known addr state t ≡ None → MayCome most addr state t
may_come most known addr state t none = elim (cases_Bool (is_some (state_of addr t))) [
  | inl there ↦ absurd (known-there (rw there at none))
  | inr away ↦
      elim (cases_Bool (nat_le known (length t))) [
        | inl full ↦ absurd (known-full (rw (away, full) at none))
        | inr room ↦ record { unknown = unknown-where (state_of addr t) away; may = rw (away, room) at none }
      ]
]
  where
    known-there : Some Known ≡ None → ⊥
    known-there e = absurd (cc)

    known-full : Some Full ≡ None → ⊥
    known-full e = absurd (cc)

-- ---- all stay sound

sound-numbers : (most : ℕ) (state : StationState) (t : Table) → state_fault most state t ≡ None → AreSound most t
    → AreIdentifiers (identifiers t ++ identifier_of state) × (length (identifiers t ++ identifier_of state) ≤ most)
sound-numbers most Authenticated t none h =
    let same = append-nil (identifiers t) in
    (subst AreIdentifiers (sym same) h.aids, subst (λ (ns : List ℕ). length ns ≤ most) (sym same) h.associated)
sound-numbers most (Associated aid listen doze) t none h =
    let may = takeable-where most aid listen doze t none in
    let room = may.room in
    let all = length-append (identifiers t) (aid ∷ []) in
    let same = append-nil (identifiers t) in
    (within (identifiers t) [] aid may.first may.last (subst AreIdentifiers (sym same) h.aids) (ap (λ ns. is_among ns aid) same ∙ may.free), omega (arith, room, all))

pub restored-sound : StayApart StationState → (most known : ℕ) (addr : List ℕ) (state : StationState) (t : Table) → restore_fault most known addr state t ≡ None → AreSound most t → AreSound most (restored addr state t)
restored-sound apart most known addr state t none h =
    let come = may_come most known addr state t none in
    let is = numbers-restored addr state t (identifier_of state) come.unknown refl in
    let sound = sound-numbers most state t come.may h in
    record {
      addresses = subst AreApart (with_entry-is_set_state addr state t) (apart.set addr state t h.addresses);
      aids = subst AreIdentifiers (sym is) sound.0;
      associated = subst (λ (ns : List ℕ). length ns ≤ most) (sym is) sound.1;
    }

-- ---- as the requests leave it

set_state-twice : (addr : List ℕ) (one other : StationState) (t : Table) → set_state addr one (set_state addr other t) ≡ set_state addr one t
set_state-twice addr one other [] = rw (nat_list_eq_equiv.refl addr) refl
set_state-twice addr one other (e ∷ t) = grind (arith, set_state-twice addr one other t)

set_mode-set : (addr : List ℕ) (aid listen : ℕ) (before doze : Bool) (t : Table) → set_mode addr doze (set_state addr (Associated aid listen before) t) ≡ set_state addr (Associated aid listen doze) t
set_mode-set addr aid listen before doze [] = rw (nat_list_eq_equiv.refl addr) refl
set_mode-set addr aid listen before doze (e ∷ t) = grind (arith, set_mode-set addr aid listen before doze t)

pub as-associated : (addr : List ℕ) (aid listen : ℕ) (doze : Bool) (t : Table) → aid ≡ next_aid addr (authenticate addr t) → restored addr (Associated aid listen doze) t ≡ set_mode addr doze (associate addr listen (authenticate addr t))
as-associated addr aid listen doze t is =
    sym (set_mode-set addr (next_aid addr (authenticate addr t)) listen false doze (authenticate addr t)
    ∙ set_state-twice addr (Associated (next_aid addr (authenticate addr t)) listen doze) Authenticated t
    ∙ ap (λ (n : ℕ). set_state addr (Associated n listen doze) t) (sym is))
