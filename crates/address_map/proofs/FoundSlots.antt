-- The slots of the entries of a network: which entries they have, and where each is found.
use Rattle.std.proofs.Common.{◌≡◌, ℕ, zero, suc, ◌+◌, ◌<◌, true, false, cond, List, [], ◌∷◌, ◌++◌, length, take, set, get_or, filter, slice_get, Option, Some, None, is_some, option_map, refl, sym, ap, subst, ◌∙◌, Result, Ok, Err, inl, inr, arith}
use Rattle.std.specs.Prelude.{if◌then◌else◌, IfNone, OnErr}
use Rattle.std.specs.Str.{bytes_eq}
use Rattle.std.specs.Map.{lookup, set_value, remove_entry}
use Rattle.std.proofs.lemmas.Bool.{both_ways, cases_Bool}
use Rattle.std.proofs.lemmas.List.{take_more}
use Rattle.std.proofs.lemmas.Option.{slice_get_within, get_or_from_slice_get}
use Rattle.std.proofs.lemmas.Slice.Eq.{bytes_eq-Decides}
use Rattle.address_map.specs.Entries.{Entries, value_of, with_entry, AreApart}
use Rattle.address_map.specs.Slots.{Slots, entries_in, slot_of, IsAt, AreFound}
use Rattle.address_map.proofs.ChangedEntries.{set_value-is_with_entry}

-- ---- addresses

pub same_addr : (a b : List ℕ) → bytes_eq a b ≡ true → a ≡ b
same_addr a b h = (bytes_eq-Decides a b).0 h

pub equal_addr : (a : List ℕ) → bytes_eq a a ≡ true
equal_addr a = (bytes_eq-Decides a a).1 refl

-- ---- one slot further

further-some : (o : Option ℕ) (i : ℕ) → option_map (λ n. suc n) o ≡ Some i → (j : ℕ) × (o ≡ Some j) × (i ≡ suc j)
further-some None i h = absurd (cc)
further-some (Some j) i h = (j, refl, cc)

none-from : {X : Type 0} (o : Option X) → is_some o ≡ false → o ≡ None
none-from None h = refl
none-from (Some x) h = absurd (both_ways true h refl)

module _ {V : Type 0} where
  -- ---- where an entry stands

  -- it has a slot exactly where it is known
  pub slot_of-known : (addr : List ℕ) (slots : Slots V) → is_some (slot_of addr slots) ≡ is_some (value_of addr (entries_in slots))
  slot_of-known addr [] = refl
  slot_of-known addr (None ∷ slots) = grind (arith, slot_of-known addr slots)
  slot_of-known addr (Some e ∷ slots) = grind (arith, slot_of-known addr slots)

  pub slot_of-none : (addr : List ℕ) (slots : Slots V) → value_of addr (entries_in slots) ≡ None → slot_of addr slots ≡ None
  slot_of-none addr slots h = none-from (slot_of addr slots) (slot_of-known addr slots ∙ ap is_some h)

  pub unknown-where : (addr : List ℕ) (slots : Slots V) → slot_of addr slots ≡ None → value_of addr (entries_in slots) ≡ None
  unknown-where addr slots h = none-from (value_of addr (entries_in slots)) (sym (slot_of-known addr slots) ∙ ap is_some h)

  -- the entry in a slot is the one that is found there

  pub slot_of-at : (addr : List ℕ) (slots : Slots V) (i : ℕ) → slot_of addr slots ≡ Some i → (value : V) × IsAt addr slots i value
  slot_of-at addr [] i h = absurd (cc)
  slot_of-at addr (None ∷ slots) i h =
      let s = further-some (slot_of addr slots) i h in
      let r = slot_of-at addr slots s.0 s.1 in
      (r.0, record { place = h; slot = subst (λ n. slice_get (None ∷ slots) n ≡ Some (Some (addr, r.0))) (sym s.2) r.1.slot; known = r.1.known })
  slot_of-at addr (Some e ∷ slots) i h = elim (cases_Bool (bytes_eq addr e.0)) [
    | inl same ↦
        let first : Some 0 ≡ Some i = rw same at h in
        let zeroth : i ≡ 0 = cc in
        (e.1, record { place = h; slot = rw (zeroth, same_addr addr e.0 same); known = rw same refl })
    | inr other ↦
        let s = further-some (slot_of addr slots) i (rw other at h) in
        let r = slot_of-at addr slots s.0 s.1 in
        (r.0, record { place = h; slot = subst (λ n. slice_get (Some e ∷ slots) n ≡ Some (Some (addr, r.0))) (sym s.2) r.1.slot; known = rw other r.1.known })
  ]

  -- an entry in a slot is known
  pub known-at : (slots : Slots V) (i : ℕ) (entry : List ℕ × V) → slice_get slots i ≡ Some (Some entry) → is_some (value_of entry.0 (entries_in slots)) ≡ true
  known-at [] i entry h = absurd (cc)
  known-at (None ∷ slots) zero entry h = absurd (cc)
  known-at (None ∷ slots) (suc i) entry h = known-at slots i entry h
  known-at (Some e ∷ slots) zero entry h = let here : bytes_eq entry.0 e.0 ≡ true = cc (equal_addr entry.0) in rw here refl
  known-at (Some e ∷ slots) (suc i) entry h = grind (arith, known-at slots i entry h)

  -- and stands in none before it
  pub first-at : (slots : Slots V) (i : ℕ) (entry : List ℕ × V) → AreApart (entries_in slots) → slice_get slots i ≡ Some (Some entry) → slot_of entry.0 (take i slots) ≡ None
  first-at [] i entry apart h = absurd (cc)
  first-at (x ∷ slots) zero entry apart h = refl
  first-at (None ∷ slots) (suc i) entry apart h = ap (option_map (λ n. suc n)) (first-at slots i entry apart h)
  first-at (Some e ∷ slots) (suc i) entry apart h = elim (cases_Bool (bytes_eq entry.0 e.0)) [
    | inl same ↦ absurd (cc (known-at slots i entry h, apart.0, same_addr entry.0 e.0 same))
    | inr other ↦ rw (other, first-at slots i entry apart.1 h) refl
  ]

  -- ---- a value is set

  pub entries-set : (addr : List ℕ) (value : V) (slots : Slots V) (i : ℕ) → slot_of addr slots ≡ Some i → entries_in (set slots i (Some (addr, value))) ≡ set_value (bytes_eq addr) (entries_in slots) value
  entries-set addr value [] i h = absurd (cc)
  entries-set addr value (None ∷ slots) zero h = grind (arith, h)
  entries-set addr value (None ∷ slots) (suc i) h = grind (arith, h, entries-set addr value slots i)
  entries-set addr value (Some e ∷ slots) zero h = grind (arith, h, same_addr addr e.0)
  entries-set addr value (Some e ∷ slots) (suc i) h = grind (arith, h, entries-set addr value slots i)

  pub found-set : (b : List ℕ) (slots : Slots V) (i : ℕ) (addr : List ℕ) (before value : V) → slice_get slots i ≡ Some (Some (addr, before)) → slot_of b (set slots i (Some (addr, value))) ≡ slot_of b slots
  found-set b [] i addr before value h = absurd (cc)
  found-set b (None ∷ slots) zero addr before value h = absurd (cc)
  found-set b (None ∷ slots) (suc i) addr before value h = ap (option_map (λ n. suc n)) (found-set b slots i addr before value h)
  found-set b (Some e ∷ slots) zero addr before value h = let name : addr ≡ e.0 = cc in rw name refl
  found-set b (Some e ∷ slots) (suc i) addr before value h = rw (found-set b slots i addr before value h) refl

  -- ---- an entry is taken out

  pub entries-out : (addr : List ℕ) (slots : Slots V) (i : ℕ) → slot_of addr slots ≡ Some i → entries_in (set slots i None) ≡ remove_entry (bytes_eq addr) (entries_in slots)
  entries-out addr [] i h = absurd (cc)
  entries-out addr (None ∷ slots) zero h = grind (arith, h)
  entries-out addr (None ∷ slots) (suc i) h = grind (arith, h, entries-out addr slots i)
  entries-out addr (Some e ∷ slots) zero h = grind (arith, h)
  entries-out addr (Some e ∷ slots) (suc i) h = grind (arith, h, entries-out addr slots i)

  pub found-out : (b addr : List ℕ) (slots : Slots V) (i : ℕ) → AreApart (entries_in slots) → slot_of addr slots ≡ Some i → slot_of b (set slots i None) ≡ cond (bytes_eq addr b) None (slot_of b slots)
  found-out b addr [] i apart h = absurd (cc)
  found-out b addr (None ∷ slots) zero apart h = grind (arith, h)
  found-out b addr (None ∷ slots) (suc i) apart h = grind (arith, h, found-out b addr slots i apart)
  found-out b addr (Some e ∷ slots) zero apart h = grind (arith, h, same_addr addr e.0, same_addr addr b, same_addr b e.0, equal_addr b, slot_of-none b slots, apart.0)
  found-out b addr (Some e ∷ slots) (suc i) apart h = grind (arith, h, found-out b addr slots i apart.1, same_addr addr b)

  -- ---- an entry comes last

  pub entries-append : (s t : Slots V) → entries_in (s ++ t) ≡ entries_in s ++ entries_in t
  entries-append [] t = refl
  entries-append (None ∷ s) t = entries-append s t
  entries-append (Some e ∷ s) t = ap (λ (k : Entries V). e ∷ k) (entries-append s t)

  pub found-last : (b addr : List ℕ) (value : V) (slots : Slots V) → slot_of addr slots ≡ None → slot_of b (slots ++ Some (addr, value) ∷ []) ≡ cond (bytes_eq addr b) (Some (length slots)) (slot_of b slots)
  found-last b addr value [] h = grind (arith, same_addr addr b, same_addr b addr, equal_addr addr)
  found-last b addr value (None ∷ slots) h = grind (arith, h, found-last b addr value slots)
  found-last b addr value (Some e ∷ slots) h = grind (arith, h, found-last b addr value slots, same_addr addr b)

  -- ---- the entries are moved together

  pub entries-kept : (slots : Slots V) → (entries_in (filter is_some slots) ≡ entries_in slots) × (length (filter is_some slots) ≡ length (entries_in slots))
  entries-kept [] = (refl, refl)
  entries-kept (None ∷ slots) = entries-kept slots
  entries-kept (Some e ∷ slots) = let rest = entries-kept slots in (ap (λ (t : Entries V). e ∷ t) rest.0, ap (λ n. suc n) rest.1)

  -- ---- a slot more

  pub found-hole : (b : List ℕ) (slots : Slots V) → slot_of b (slots ++ None ∷ []) ≡ slot_of b slots
  found-hole b [] = refl
  found-hole b (None ∷ slots) = ap (option_map (λ n. suc n)) (found-hole b slots)
  found-hole b (Some e ∷ slots) = ap (λ (o : Option ℕ). if bytes_eq b e.0 then Some 0 else option_map (λ n. suc n) o) (found-hole b slots)

  pub taken-at : (slots : Slots V) (k : ℕ) (x : Option (List ℕ × V)) → slice_get slots k ≡ Some x → take (k + 1) slots ≡ take k slots ++ x ∷ []
  taken-at slots k x h =
      let within : k < length slots = slice_get_within slots k x h in
      take_more slots k x within ∙ ap (λ (y : Option (List ℕ × V)). take k slots ++ y ∷ []) (get_or_from_slice_get slots k x x h)

  -- ---- what is read

  pub read-found : (addr : List ℕ) (index : List (List ℕ × ℕ)) (slots : Slots V) (i : ℕ) → AreFound index slots → lookup (bytes_eq addr) index ≡ Some i → (value : V) × IsAt addr slots i value
  read-found addr index slots i found h = slot_of-at addr slots i (sym (found addr) ∙ h)

pub if_none-from : {X : Type 0} (o : Option X) (P : Type 0) → P → IfNone o P
if_none-from None P p = p
if_none-from (Some x) P p = tt

module _ {V : Type 0} where
  -- ---- the list after a change

  pub entries-with_entry : (addr : List ℕ) (slots : Slots V) (i : ℕ) (before value : V) → IsAt addr slots i before → entries_in (set slots i (Some (addr, value))) ≡ with_entry addr value (entries_in slots)
  entries-with_entry addr slots i before value at =
      entries-set addr value slots i at.place ∙ set_value-is_with_entry addr value (entries_in slots) (ap is_some at.known)

  pub entries-last : (addr : List ℕ) (value : V) (slots : Slots V) → entries_in (slots ++ Some (addr, value) ∷ []) ≡ entries_in slots ++ (addr, value) ∷ []
  entries-last addr value slots = entries-append slots (Some (addr, value) ∷ [])

  -- an entry that is not known is not set
  pub set_value-unknown : (addr : List ℕ) (value : V) (t : Entries V) → value_of addr t ≡ None → set_value (bytes_eq addr) t value ≡ t
  set_value-unknown addr value [] h = refl
  set_value-unknown addr value (e ∷ t) h = grind (arith, h, set_value-unknown addr value t)

pub on_err-from : {T E : Type 0} (r : Result T E) (P : Type 0) → P → OnErr r P
on_err-from (Ok x) P p = tt
on_err-from (Err e) P p = p

module _ {V : Type 0} where
  -- the value of the entry in a slot is set
  pub put-at : (addr : List ℕ) (slots : Slots V) (i : ℕ) (before value : V) (x new : Option (List ℕ × V)) → IsAt addr slots i before → x ≡ get_or slots i x → new ≡ option_map (λ (entry : List ℕ × V). (entry.0, value)) x → new ≡ Some (addr, value)
  put-at addr slots i before value x new at read put =
      put ∙ ap (option_map (λ (entry : List ℕ × V). (entry.0, value))) (read ∙ get_or_from_slice_get slots i (Some (addr, before)) x at.slot)
