-- The order of the slots: which entries a row of them has, which places are gone, and what becomes of both.
use Rattle.std.proofs.Common.{◌≡◌, ℕ, zero, suc, ◌+◌, ◌-◌, ◌<◌, ◌≤◌, Bool, true, false, List, [], ◌∷◌, ◌++◌, length, get_or, set, take, drop, min, filter, slice_get, Option, Some, None, is_some, refl, sym, ap, subst, ◌∙◌, arith, inl, inr, cond}
use Rattle.std.specs.Prelude.{nat_lt}
use Rattle.std.specs.List.{AllByRecursion, insert, range_with_len}
use Rattle.std.specs.List.Sorted.{IsPartitionPoint}
use Rattle.std.specs.Map.{lookup, remove_entry}
use Rattle.std.specs.Str.{bytes_eq}
use Rattle.std.proofs.lemmas.Bool.{cases_eq, cond_both, le-ltb, lt-ltb}
use Rattle.std.proofs.lemmas.List.{append_cancel_right, get_or-set_same, get_or-set_other, get_or_append_left, get_or_past, get_or_push, nil_from_length, set_at, length-append, length-set, length_push, length-take, append-nil, get_or-drop, take_all, take_more}
use Rattle.std.proofs.lemmas.Option.{slice_get_within, slice_get-get_or, get_or_from_slice_get}
use Rattle.std.proofs.Math.Seq.{take-append_seam}
use Rattle.address_map.specs.Entries.{value_of, AreApart}
use Rattle.address_map.specs.Slots.{Slots, entries_in, slot_of, IsAt, slot_at, listed, holes_from, past, with_place, Rises, EndsWith, IsListed, MayList, TakesOut, IsAddressMap}
use Rattle.address_map.proofs.ChangedEntries.{with_entry-unknown, apart-set, apart-removed}
use Rattle.address_map.proofs.FoundSlots.{equal_addr, slot_of-known, slot_of-none, slot_of-at, known-at, entries-set, entries-with_entry, entries-out, found-set, found-out, found-hole, found-last, first-at, taken-at, unknown-where, entries-last, entries-kept, entries-append}

-- ---- one slot

module _ {V : Type 0} where
  slot_at-is : (slots : Slots V) (i : ℕ) → slot_at slots i ≡ get_or slots i None
  slot_at-is [] i = refl
  slot_at-is (y ∷ slots) zero = refl
  slot_at-is (y ∷ slots) (suc i) = slot_at-is slots i

  pub slot_at-get : (slots : Slots V) (i : ℕ) (x : Option (List ℕ × V)) → slice_get slots i ≡ Some x → slot_at slots i ≡ x
  slot_at-get slots i x h = slot_at-is slots i ∙ get_or_from_slice_get slots i x None h

  pub slot_at-beyond : (slots : Slots V) (i : ℕ) → length slots ≤ i → slot_at slots i ≡ None
  slot_at-beyond slots i h = slot_at-is slots i ∙ get_or_past slots i None h

  pub slot_at-some : (slots : Slots V) (i : ℕ) (entry : List ℕ × V) → slot_at slots i ≡ Some entry → slice_get slots i ≡ Some (Some entry)
  slot_at-some [] i entry h = absurd (cc)
  slot_at-some (y ∷ slots) zero entry h = ap (λ (x : Option (List ℕ × V)). Some x) h
  slot_at-some (y ∷ slots) (suc i) entry h = slot_at-some slots i entry h

  slot_at-set : (slots : Slots V) (i : ℕ) (x : Option (List ℕ × V)) → i < length slots → slot_at (set slots i x) i ≡ x
  slot_at-set slots i x h = slot_at-is (set slots i x) i ∙ get_or-set_same slots i x None h

  slot_at-set-other : (slots : Slots V) (i j : ℕ) (x : Option (List ℕ × V)) → (i ≡ j → ⊥) → slot_at (set slots i x) j ≡ slot_at slots j
  slot_at-set-other slots i j x h = slot_at-is (set slots i x) j ∙ get_or-set_other slots i j x None (λ e. h (sym e)) ∙ sym (slot_at-is slots j)

  slot_at-before : (slots more : Slots V) (i : ℕ) → i < length slots → slot_at (slots ++ more) i ≡ slot_at slots i
  slot_at-before slots more i h = slot_at-is (slots ++ more) i ∙ get_or_append_left slots more None i h ∙ sym (slot_at-is slots i)

  slot_at-last : (slots : Slots V) (x : Option (List ℕ × V)) → slot_at (slots ++ x ∷ []) (length slots) ≡ x
  slot_at-last slots x = slot_at-is (slots ++ x ∷ []) (length slots) ∙ get_or_push slots x None (length slots) refl

  -- ---- an entry stands in one slot

  apart-rest : (x : Option (List ℕ × V)) (slots : Slots V) → AreApart (entries_in (x ∷ slots)) → AreApart (entries_in slots)
  apart-rest None slots h = h
  apart-rest (Some e) slots h = h.1

  unknown-rest : (addr : List ℕ) (x : Option (List ℕ × V)) (slots : Slots V) → value_of addr (entries_in (x ∷ slots)) ≡ None → value_of addr (entries_in slots) ≡ None
  unknown-rest addr x slots h = grind (arith, h)

  known-first : (entry : List ℕ × V) (slots : Slots V) → is_some (value_of entry.0 (entries_in (Some entry ∷ slots))) ≡ true
  known-first entry slots = rw (equal_addr entry.0)

  pub one_slot : (slots : Slots V) (m n : ℕ) (entry : List ℕ × V) (value : V) → AreApart (entries_in slots) → slice_get slots m ≡ Some (Some entry) → slot_at slots n ≡ Some (entry.0, value) → n ≡ m
  one_slot [] m n entry value apart at other = absurd (cc)
  one_slot (x ∷ slots) zero zero entry value apart at other = refl
  one_slot (x ∷ slots) zero (suc n) entry value apart at other =
      let first : x ≡ Some entry = cc in
      absurd (cc ((rw first at apart).0, known-at slots n (entry.0, value) (slot_at-some slots n (entry.0, value) other)))
  one_slot (x ∷ slots) (suc m) zero entry value apart at other = absurd (cc ((rw other at apart).0, known-at slots m entry at))
  one_slot (x ∷ slots) (suc m) (suc n) entry value apart at other = ap (λ k. suc k) (one_slot slots m n entry value (apart-rest x slots apart) at other)

  pub slot_of-here : (slots : Slots V) (i : ℕ) (entry : List ℕ × V) → AreApart (entries_in slots) → slice_get slots i ≡ Some (Some entry) → slot_of entry.0 slots ≡ Some i
  slot_of-here slots i entry apart h = by (slot_of entry.0 slots) refl
    where
      by : (o : Option ℕ) → slot_of entry.0 slots ≡ o → slot_of entry.0 slots ≡ Some i
      by None is = absurd (cc (slot_of-known entry.0 slots, known-at slots i entry h))
      by (Some j) is =
          let found = slot_of-at entry.0 slots j is in
          cc (one_slot slots i j entry found.0 apart h (slot_at-get slots j (Some (entry.0, found.0)) found.1.slot))

  -- ---- a row

  pub listed-get : (row : List ℕ) (slots : Slots V) (q i : ℕ) → slice_get row q ≡ Some i → slice_get (listed row slots) q ≡ Some (slot_at slots i)
  listed-get [] slots q i h = absurd (cc)
  listed-get (r ∷ row) slots zero i h = let same : r ≡ i = cc in ap (λ n. Some (slot_at slots n)) same
  listed-get (r ∷ row) slots (suc q) i h = listed-get row slots q i h

  listed-at : (row : List ℕ) (slots : Slots V) (q : ℕ) (entry : List ℕ × V) → slice_get (listed row slots) q ≡ Some (Some entry) → (i : ℕ) × (slice_get row q ≡ Some i) × (slot_at slots i ≡ Some entry)
  listed-at [] slots q entry h = absurd (cc)
  listed-at (r ∷ row) slots zero entry h = let same : slot_at slots r ≡ Some entry = cc in (r, refl, same)
  listed-at (r ∷ row) slots (suc q) entry h = listed-at row slots q entry h

  pub listed-len : (row : List ℕ) (slots : Slots V) → length (listed row slots) ≡ length row
  listed-len [] slots = refl
  listed-len (r ∷ row) slots = ap (λ n. suc n) (listed-len row slots)

  listed-split : (row : List ℕ) (i : ℕ) (slots : Slots V) → listed (row ++ i ∷ []) slots ≡ listed row slots ++ slot_at slots i ∷ []
  listed-split [] i slots = refl
  listed-split (r ∷ row) i slots = ap (λ (s : Slots V). slot_at slots r ∷ s) (listed-split row i slots)

  -- a slot that the row doesn't have
  listed-away : (row : List ℕ) (slots : Slots V) (i : ℕ) (x : Option (List ℕ × V)) (entry : List ℕ × V) → slice_get slots i ≡ Some (Some entry) → value_of entry.0 (entries_in (listed row slots)) ≡ None → listed row (set slots i x) ≡ listed row slots
  listed-away [] slots i x entry at none = refl
  listed-away (r ∷ row) slots i x entry at none = elim (cases_eq i r) [
    | inl same ↦
        let here : slot_at slots r ≡ Some entry = cc (slot_at-get slots i (Some entry) at) in
        absurd (cc (rw here at none, known-first entry (listed row slots)))
    | inr other ↦ cc (slot_at-set-other slots i r x other, listed-away row slots i x entry at (unknown-rest entry.0 (slot_at slots r) (listed row slots) none))
  ]

  -- a slot that it has at a place
  pub listed-set : (row : List ℕ) (slots : Slots V) (q i : ℕ) (x : Option (List ℕ × V)) (entry : List ℕ × V) → AreApart (entries_in (listed row slots)) → slice_get row q ≡ Some i → slice_get slots i ≡ Some (Some entry) → listed row (set slots i x) ≡ set (listed row slots) q x
  listed-set [] slots q i x entry apart at slot = absurd (cc)
  listed-set (r ∷ row) slots zero i x entry apart at slot =
      let here : slot_at slots r ≡ Some entry = cc (slot_at-get slots i (Some entry) slot) in
      cc (slot_at-set slots i x (slice_get_within slots i (Some entry) slot), listed-away row slots i x entry slot (rw here at apart).0)
  listed-set (r ∷ row) slots (suc q) i x entry apart at slot = elim (cases_eq i r) [
    | inl same ↦
        let here : slot_at slots r ≡ Some entry = cc (slot_at-get slots i (Some entry) slot) in
        let again : slice_get (listed row slots) q ≡ Some (Some entry) = cc (listed-get row slots q i at) in
        absurd (cc ((rw here at apart).0, known-at (listed row slots) q entry again))
    | inr other ↦ cc (slot_at-set-other slots i r x other, listed-set row slots q i x entry (apart-rest (slot_at slots r) (listed row slots) apart) at slot)
  ]

  -- each slot that has an entry is in the row
  pub place-of : (row : List ℕ) (slots : Slots V) (i : ℕ) (entry : List ℕ × V) → AreApart (entries_in slots) → entries_in (listed row slots) ≡ entries_in slots → slice_get slots i ≡ Some (Some entry) → (q : ℕ) × (slice_get row q ≡ Some i)
  place-of row slots i entry apart same at = by (slot_of entry.0 (listed row slots)) refl
    where
      by : (o : Option ℕ) → slot_of entry.0 (listed row slots) ≡ o → (q : ℕ) × (slice_get row q ≡ Some i)
      by None is = absurd (cc (slot_of-known entry.0 (listed row slots), known-at slots i entry at))
      by (Some q) is =
          let found = slot_of-at entry.0 (listed row slots) q is in
          let there = listed-at row slots q (entry.0, found.0) found.1.slot in
          (q, cc (one_slot slots i there.0 entry found.0 apart at there.2))

  pub listed-append : (row : List ℕ) (slots : Slots V) (x : Option (List ℕ × V)) → AllByRecursion (λ i. i < length slots) row → listed (row ++ length slots ∷ []) (slots ++ x ∷ []) ≡ listed row slots ++ x ∷ []
  listed-append [] slots x h = ap (λ (y : Option (List ℕ × V)). y ∷ []) (slot_at-last slots x)
  listed-append (r ∷ row) slots x h = cc (slot_at-before slots (x ∷ []) r h.0, listed-append row slots x h.1)

  pub listed-filter : (row : List ℕ) (slots : Slots V) → listed (filter (λ i. is_some (slot_at slots i)) row) slots ≡ filter is_some (listed row slots)
  listed-filter [] slots = refl
  listed-filter (r ∷ row) slots = grind (arith, listed-filter row slots)

  listed-behind : (n m : ℕ) (x : Option (List ℕ × V)) (slots : Slots V) → listed (range_with_len (suc n) m) (x ∷ slots) ≡ listed (range_with_len n m) slots
  listed-behind n zero x slots = refl
  listed-behind n (suc m) x slots =
      let next : suc n + 1 ≡ suc (n + 1) = omega arith in
      cc (listed-behind (n + 1) m x slots)

  pub listed-all : (slots : Slots V) → listed (range_with_len 0 (length slots)) slots ≡ slots
  listed-all [] = refl
  listed-all (x ∷ slots) = cc (listed-behind 0 (length slots) x slots, listed-all slots)

-- ---- the numbers of slots

pub within-append : (row : List ℕ) (n : ℕ) → AllByRecursion (λ i. i < n) row → AllByRecursion (λ i. i < suc n) (row ++ n ∷ [])
within-append [] n h = (omega arith, tt)
within-append (r ∷ row) n h = (omega (arith, h.0), within-append row n h.1)

within-front : (row : List ℕ) (i n : ℕ) → AllByRecursion (λ k. k < n) (row ++ i ∷ []) → AllByRecursion (λ k. k < n) row
within-front [] i n h = tt
within-front (r ∷ row) i n h = (h.0, within-front row i n h.1)

pub within-filter : (p : ℕ → Bool) (row : List ℕ) (n : ℕ) → AllByRecursion (λ i. i < n) row → AllByRecursion (λ i. i < n) (filter p row)
within-filter p [] n h = tt
within-filter p (r ∷ row) n h = cond_both (p r) _ _ (AllByRecursion (λ i. i < n)) (λ _. (h.0, within-filter p row n h.1)) (λ _. within-filter p row n h.1)

pub within-range : (a m n : ℕ) → a + m ≤ n → AllByRecursion (λ i. i < n) (range_with_len a m)
within-range a zero n h = tt
within-range a (suc m) n h = (omega (arith, h), within-range (a + 1) m n (omega (arith, h)))

module _ {V : Type 0} where
  -- ---- the places that are gone

  holes-behind : (n m : ℕ) (slots : Slots V) → n < m → (place : ℕ) → place ≤ n → with_place place (holes_from m slots) ≡ place ∷ holes_from m slots
  holes-behind n m [] low place h = refl
  holes-behind n m (None ∷ slots) low place h = let behind : nat_lt m place ≡ false = le-ltb m place (omega (arith, low, h)) in rw behind refl
  holes-behind n m (Some e ∷ slots) low place h = holes-behind n (suc m) slots (omega (arith, low)) place h

  pub holes-out : (n q : ℕ) (slots : Slots V) (entry : List ℕ × V) → slice_get slots q ≡ Some (Some entry) → holes_from n (set slots q None) ≡ with_place (n + q) (holes_from n slots)
  holes-out n q [] entry h = absurd (cc)
  holes-out n zero (None ∷ slots) entry h = absurd (cc)
  holes-out n (suc q) (None ∷ slots) entry h =
      let before : nat_lt n (n + suc q) ≡ true = lt-ltb n (n + suc q) (omega arith) in
      let same : suc n + q ≡ n + suc q = omega arith in
      rw before (ap (λ (places : List ℕ). n ∷ places) (holes-out (suc n) q slots entry h ∙ ap (λ k. with_place k (holes_from (suc n) slots)) same))
  holes-out n zero (Some e ∷ slots) entry h =
      let here : n + 0 ≡ n = omega arith in
      cc (holes-behind n (suc n) slots (omega arith) n (omega arith))
  holes-out n (suc q) (Some e ∷ slots) entry h =
      let same : suc n + q ≡ n + suc q = omega arith in
      cc (holes-out (suc n) q slots entry h)

  pub holes-set : (n q : ℕ) (slots : Slots V) (entry new : List ℕ × V) → slice_get slots q ≡ Some (Some entry) → holes_from n (set slots q (Some new)) ≡ holes_from n slots
  holes-set n q [] entry new h = absurd (cc)
  holes-set n zero (None ∷ slots) entry new h = absurd (cc)
  holes-set n (suc q) (None ∷ slots) entry new h = ap (λ (places : List ℕ). n ∷ places) (holes-set (suc n) q slots entry new h)
  holes-set n zero (Some e ∷ slots) entry new h = refl
  holes-set n (suc q) (Some e ∷ slots) entry new h = holes-set (suc n) q slots entry new h

  pub holes-kept : (n : ℕ) (slots : Slots V) → holes_from n (filter is_some slots) ≡ []
  holes-kept n [] = refl
  holes-kept n (None ∷ slots) = holes-kept n slots
  holes-kept n (Some e ∷ slots) = holes-kept (suc n) slots

  pub holes-last : (n : ℕ) (slots : Slots V) (entry : List ℕ × V) → holes_from n (slots ++ Some entry ∷ []) ≡ holes_from n slots
  holes-last n [] entry = refl
  holes-last n (None ∷ slots) entry = ap (λ (places : List ℕ). n ∷ places) (holes-last (suc n) slots entry)
  holes-last n (Some e ∷ slots) entry = holes-last (suc n) slots entry

  pub holes-count : (n : ℕ) (slots : Slots V) → length (entries_in slots) + length (holes_from n slots) ≡ length slots
  holes-count n [] = refl
  holes-count n (None ∷ slots) = let rest = holes-count (suc n) slots in omega (arith, rest)
  holes-count n (Some e ∷ slots) = let rest = holes-count (suc n) slots in omega (arith, rest)

  past-behind : (n m : ℕ) (slots : Slots V) → n < m → past (holes_from m slots) n ≡ n
  past-behind n m [] h = refl
  past-behind n m (None ∷ slots) h = let low : nat_lt n m ≡ true = lt-ltb n m h in rw low refl
  past-behind n m (Some e ∷ slots) h = past-behind n (suc m) slots (omega (arith, h))

  -- past the holes stands the entry of that place among the entries
  pub past-at : (n i : ℕ) (slots : Slots V) → (k : ℕ) × (past (holes_from n slots) (n + i) ≡ n + k) × (slot_at slots k ≡ slice_get (entries_in slots) i)
  past-at n i [] = (i, refl, refl)
  past-at n i (None ∷ slots) =
      let behind : nat_lt (n + i) n ≡ false = le-ltb (n + i) n (omega arith) in
      let rest = past-at (suc n) i slots in
      let start : suc (n + i) ≡ suc n + i = omega arith in
      let end : suc n + rest.0 ≡ n + suc rest.0 = omega arith in
      (suc rest.0, rw behind (cc rest.1), rest.2)
  past-at n zero (Some e ∷ slots) =
      let here : n + 0 ≡ n = omega arith in
      (0, cc (past-behind n (suc n) slots (omega arith)), refl)
  past-at n (suc i) (Some e ∷ slots) =
      let rest = past-at (suc n) i slots in
      let start : n + suc i ≡ suc n + i = omega arith in
      let end : suc n + rest.0 ≡ n + suc rest.0 = omega arith in
      (suc rest.0, cc rest.1, rest.2)

  -- ---- how many there are

  pub count-set : (slots : Slots V) (i : ℕ) (entry new : List ℕ × V) → slice_get slots i ≡ Some (Some entry) → length (entries_in (set slots i (Some new))) ≡ length (entries_in slots)
  count-set [] i entry new h = absurd (cc)
  count-set (None ∷ slots) zero entry new h = absurd (cc)
  count-set (None ∷ slots) (suc i) entry new h = count-set slots i entry new h
  count-set (Some e ∷ slots) zero entry new h = refl
  count-set (Some e ∷ slots) (suc i) entry new h = ap (λ n. suc n) (count-set slots i entry new h)

  pub count-out : (slots : Slots V) (i : ℕ) (entry : List ℕ × V) → slice_get slots i ≡ Some (Some entry) → length (entries_in (set slots i None)) + 1 ≡ length (entries_in slots)
  count-out [] i entry h = absurd (cc)
  count-out (None ∷ slots) zero entry h = absurd (cc)
  count-out (None ∷ slots) (suc i) entry h = count-out slots i entry h
  count-out (Some e ∷ slots) zero entry h = omega arith
  count-out (Some e ∷ slots) (suc i) entry h = let rest = count-out slots i entry h in omega (arith, rest)

  -- ---- the order after a change

  pub order-set : (row gone : List ℕ) (slots : Slots V) (i : ℕ) (addr : List ℕ) (before value : V) → AreApart (entries_in slots) → IsAt addr slots i before → IsListed row gone slots → IsListed row gone (set slots i (Some (addr, value)))
  order-set row gone slots i addr before value apart at l =
      let place = place-of row slots i (addr, before) apart l.entries at.slot in
      let there : slice_get (listed row slots) place.0 ≡ Some (Some (addr, before)) = cc (listed-get row slots place.0 i place.1, slot_at-get slots i (Some (addr, before)) at.slot) in
      let apart' : AreApart (entries_in (listed row slots)) = rw l.entries apart in
      let same = listed-set row slots place.0 i (Some (addr, value)) (addr, before) apart' place.1 at.slot in
      record {
        within = rw (length-set slots i (Some (addr, value))) l.within;
        entries = cc (same, entries-set addr value (listed row slots) place.0 (slot_of-here (listed row slots) place.0 (addr, before) apart' there), entries-set addr value slots i at.place);
        places = cc (same, holes-set 0 place.0 (listed row slots) (addr, before) (addr, value) there);
      }

  -- the slot of an entry that left is a hole, at this place of the row
  pub order-hole : (row gone : List ℕ) (before after : Slots V) (q i : ℕ) → slice_get row q ≡ Some i → (t : TakesOut i before after) → IsListed row gone before
      → (listed row after ≡ set (listed row before) q None) × (entries_in (listed row after) ≡ entries_in after) × (slice_get (listed row before) q ≡ Some (Some t.entry))
  order-hole row gone before after q i at t l =
      let there : slice_get (listed row before) q ≡ Some (Some t.entry) = cc (listed-get row before q i at, slot_at-get before i (Some t.entry) t.slot) in
      let apart : AreApart (entries_in (listed row before)) = rw l.entries t.apart in
      let same : listed row after ≡ set (listed row before) q None = cc (listed-set row before q i None t.entry apart at t.slot) in
      (same, cc (entries-out t.entry.0 (listed row before) q (slot_of-here (listed row before) q t.entry apart there), entries-out t.entry.0 before i (slot_of-here before i t.entry t.apart t.slot)), there)

  within-after : (row : List ℕ) (i : ℕ) (before after : Slots V) → TakesOut i before after → AllByRecursion (λ k. k < length before) row → AllByRecursion (λ k. k < length after) row
  within-after row i before after t h = rw (t.hole, length-set before i None) h

  pub order-noted : (row gone new : List ℕ) (before after : Slots V) (q i : ℕ) → slice_get row q ≡ Some i → new ≡ with_place q gone → TakesOut i before after → IsListed row gone before → IsListed row new after
  order-noted row gone new before after q i at noted t l =
      let h = order-hole row gone before after q i at t l in
      let first : 0 + q ≡ q = omega arith in
      record { within = within-after row i before after t l.within; entries = h.1; places = cc (holes-out 0 q (listed row before) t.entry h.2) }

  pub order-last : (row gone : List ℕ) (slots : Slots V) (entry : List ℕ × V) → IsListed row gone slots → IsListed (row ++ length slots ∷ []) gone (slots ++ Some entry ∷ [])
  order-last row gone slots entry l =
      let same = listed-append row slots (Some entry) l.within in
      let more : length (slots ++ Some entry ∷ []) ≡ suc (length slots) = omega (arith, length-append slots (Some entry ∷ [])) in
      record {
        within = rw more (within-append row (length slots) l.within);
        entries = cc (entries-append (listed row slots) (Some entry ∷ []), entries-append slots (Some entry ∷ []));
        places = cc (holes-last 0 (listed row slots) entry);
      }

  pub order-range : (slots : Slots V) → IsListed (range_with_len 0 (length slots)) (holes_from 0 slots) slots
  order-range slots = record {
    within = within-range 0 (length slots) (length slots) (omega arith);
    entries = ap entries_in (listed-all slots);
    places = ap (holes_from 0) (sym (listed-all slots));
  }

  pub no-holes : (slots : Slots V) → length (entries_in slots) ≡ length slots → holes_from 0 slots ≡ []
  no-holes slots full = nil_from_length (holes_from 0 slots) (omega (arith, full, holes-count 0 slots))

  -- slots without a hole, each at its number
  pub order-numbered : (row gone : List ℕ) (slots : Slots V) → row ≡ range_with_len 0 (length slots) → gone ≡ [] → length (entries_in slots) ≡ length slots → IsListed row gone slots
  order-numbered row gone slots numbered cleared full = rw (numbered, cleared) (rw (no-holes slots full) at (order-range slots))

  -- there are no more entries than places in the row
  pub order-few : (row gone : List ℕ) (slots : Slots V) → IsListed row gone slots → length (entries_in slots) + length gone ≡ length row
  order-few row gone slots l = omega (arith, holes-count 0 (listed row slots), ap length l.entries, ap length l.places, listed-len row slots)

  -- the entry at a place
  pub order-at : (row gone : List ℕ) (slots : Slots V) (place at : ℕ) → at ≡ past gone place → IsListed row gone slots → slot_at (listed row slots) at ≡ slice_get (entries_in slots) place
  order-at row gone slots place at is l =
      let there = past-at 0 place (listed row slots) in
      let first : place ≡ 0 + place = omega arith in
      let same : there.0 ≡ 0 + there.0 = omega arith in
      cc there.2

-- ---- a row whose gone places are taken out

-- what stands at a place is alike where all from it on is
pub same-from : (q : ℕ) (xs ys : List ℕ) → drop q xs ≡ drop q ys → get_or xs q 0 ≡ get_or ys q 0
same-from q xs ys same =
    let first : q ≡ q + 0 = omega arith in
    cc (get_or-drop q xs 0 0, get_or-drop q ys 0 0)

pub first-of : (places : List ℕ) → 0 < length places → places ≡ get_or places 0 0 ∷ drop 1 places
first-of [] some = absurd (omega (arith, some))
first-of (p ∷ places) some = refl

module _ {V : Type 0} where
  -- before the first place that is gone each slot has an entry
  pub before-first : (n : ℕ) (row : List ℕ) (slots : Slots V) (first : ℕ) (rest : List ℕ) (k : ℕ) → first ∷ rest ≡ holes_from n (listed row slots) → n + k ≡ first
      → filter (λ i. is_some (slot_at slots i)) (take k row) ≡ take k row
  before-first n row slots first rest zero gone is = refl
  before-first n [] slots first rest (suc k) gone is = refl
  before-first n (r ∷ row) slots first rest (suc k) gone is = grind (arith, gone, is, before-first (suc n) row slots first rest k)

  pub order-kept : (row gone rows none : List ℕ) (slots : Slots V) → rows ≡ filter (λ k. is_some (slot_at slots k)) row → none ≡ [] → IsListed row gone slots → IsListed rows none slots
  order-kept row gone rows none slots kept cleared l =
      let same : listed rows slots ≡ filter is_some (listed row slots) = cc (listed-filter row slots) in
      record {
        within = rw kept (within-filter (λ k. is_some (slot_at slots k)) row (length slots) l.within);
        entries = cc ((entries-kept (listed row slots)).0);
        places = cc (holes-kept 0 (listed row slots));
      }

  pub order-cleared : (row gone rows none : List ℕ) (before after : Slots V) (i : ℕ) → rows ≡ filter (λ k. is_some (slot_at after k)) row → none ≡ [] → TakesOut i before after → IsListed row gone before → IsListed rows none after
  order-cleared row gone rows none before after i kept cleared t l =
      let place = place-of row before i t.entry t.apart l.entries t.slot in
      order-kept row (with_place place.0 gone) rows none after kept cleared (order-noted row gone (with_place place.0 gone) before after place.0 i place.1 refl t l)

-- ---- a place that is looked for by halves

pub rises-from : (n m : ℕ) (xs : List ℕ) → n ≤ m → Rises m xs → Rises n xs
rises-from n m [] le h = tt
rises-from n m (x ∷ xs) le h = (omega (arith, le, h.0), h.1)

module _ {V : Type 0} where
  pub holes-rise : (n : ℕ) (slots : Slots V) → Rises n (holes_from n slots)
  holes-rise n [] = tt
  holes-rise n (None ∷ slots) = (omega arith, holes-rise (suc n) slots)
  holes-rise n (Some e ∷ slots) = rises-from n (suc n) (holes_from (suc n) slots) (omega arith) (holes-rise (suc n) slots)

rises-at : (n : ℕ) (xs : List ℕ) (i d : ℕ) → i < length xs → Rises n xs → n + i ≤ get_or xs i d
rises-at n [] i d low h = absurd (omega (arith, low))
rises-at n (x ∷ xs) zero d low h = omega (arith, h.0)
rises-at n (x ∷ xs) (suc i) d low h = let rest = rises-at (suc x) xs i d (omega (arith, low)) h.1 in omega (arith, rest, h.0)

pub rises-order : (n : ℕ) (xs : List ℕ) → Rises n xs → (i j : ℕ) (d : ℕ) → i ≤ j → j < length xs → get_or xs i d ≤ get_or xs j d
rises-order n [] h i j d le low = absurd (omega (arith, low))
rises-order n (x ∷ xs) h zero zero d le low = omega arith
rises-order n (x ∷ xs) h zero (suc j) d le low = omega (arith, rises-at (suc x) xs j d (omega (arith, low)) h.1)
rises-order n (x ∷ xs) h (suc i) zero d le low = absurd (omega (arith, le))
rises-order n (x ∷ xs) h (suc i) (suc j) d le low = rises-order (suc x) xs h.1 i j d (omega (arith, le)) (omega (arith, low))

-- a place comes after the lower ones
pub with_place-insert : (place : ℕ) (xs : List ℕ) (k : ℕ) → k ≤ length xs → IsPartitionPoint (λ y. nat_lt y place ≡ true) (λ y. nat_lt y place ≡ false) xs k → with_place place xs ≡ insert xs k place
with_place-insert place [] zero few h = refl
with_place-insert place [] (suc k) few h = absurd (omega (arith, few))
with_place-insert place (x ∷ xs) zero few h = rw (h.1 0 0 (omega arith) (omega arith)) refl
with_place-insert place (x ∷ xs) (suc k) few h =
    let rest = with_place-insert place xs k (omega (arith, few)) (
      λ i d low high. h.0 (suc i) d (omega arith) (omega (arith, high)),
      λ i d low high. h.1 (suc i) d (omega (arith, low)) (omega (arith, high)),
    ) in
    rw (h.0 0 0 (omega arith) (omega arith)) (ap (λ (t : List ℕ). x ∷ t) rest)

-- past so many places, where the last of them isn't behind what stands there and the next one is
pub past-is : (n : ℕ) (gone : List ℕ) (place k : ℕ) → Rises n gone → k ≤ length gone → (0 < k → get_or gone (k - 1) 0 < place + k) → (k < length gone → place + k < get_or gone k 0) → past gone place ≡ place + k
past-is n [] place k up few below above = omega (arith, few)
past-is n (x ∷ gone) place zero up few below above =
    let high : place + 0 < x = above (omega arith) in
    let low : nat_lt place x ≡ true = lt-ltb place x (omega (arith, high)) in
    rw low (omega arith)
past-is n (x ∷ gone) place (suc k) up few below above =
    let low : x ≤ place = first k few below in
    let behind : nat_lt place x ≡ false = le-ltb place x low in
    let end : suc place + k ≡ place + suc k = omega arith in
    rw behind (past-is (suc x) gone (suc place) k up.1 (omega (arith, few)) (rest k below) (λ more. next (above (omega (arith, more)))) ∙ end)
  where
    first : (k : ℕ) → suc k ≤ length (x ∷ gone) → (0 < suc k → get_or (x ∷ gone) (suc k - 1) 0 < place + suc k) → x ≤ place
    first zero few below =
        let at : suc 0 - 1 ≡ 0 = omega arith in
        let here : x < place + 1 = subst (λ k. get_or (x ∷ gone) k 0 < place + 1) at (below (omega arith)) in
        omega (arith, here)
    first (suc j) few below =
        let at : suc (suc j) - 1 ≡ suc j = omega arith in
        let here : get_or gone j 0 < place + suc (suc j) = subst (λ k. get_or (x ∷ gone) k 0 < place + suc (suc j)) at (below (omega arith)) in
        let rest : suc x + j ≤ get_or gone j 0 = rises-at (suc x) gone j 0 (omega (arith, few)) up.1 in
        omega (arith, here, rest)

    rest : (k : ℕ) → (0 < suc k → get_or (x ∷ gone) (suc k - 1) 0 < place + suc k) → 0 < k → get_or gone (k - 1) 0 < suc place + k
    rest zero below some = absurd (omega (arith, some))
    rest (suc j) below some =
        let at : suc (suc j) - 1 ≡ suc j = omega arith in
        let before : j ≡ suc j - 1 = omega arith in
        let here : get_or gone j 0 < place + suc (suc j) = subst (λ k. get_or (x ∷ gone) k 0 < place + suc (suc j)) at (below (omega arith)) in
        subst (λ k. get_or gone k 0 < suc place + suc j) before (omega (arith, here))

    next : place + suc k < get_or gone k 0 → suc place + k < get_or gone k 0
    next high = omega (arith, high)

module _ {V : Type 0} where
  -- where no slot is a hole each entry stands in the slot of its place
  pub full-at : (slots : Slots V) (place : ℕ) → length (entries_in slots) ≡ length slots → slot_at slots place ≡ slice_get (entries_in slots) place
  full-at slots place full =
      let there = past-at 0 place slots in
      let at : 0 + place ≡ 0 + there.0 = ap (λ (places : List ℕ). past places (0 + place)) (sym (no-holes slots full)) ∙ there.1 in
      let here : place ≡ there.0 = omega (arith, at) in
      cc there.2

-- ---- numbers in order

pub range-more : (a n : ℕ) → range_with_len a (suc n) ≡ range_with_len a n ++ (a + n) ∷ []
range-more a zero = let here : a ≡ a + 0 = omega arith in cc
range-more a (suc n) = let there : a + 1 + n ≡ a + suc n = omega arith in cc (range-more (a + 1) n)

module _ {V : Type 0} where
  -- ---- the last slot goes with its entry

  slot_at-hole : (slots : Slots V) (i : ℕ) → slot_at (slots ++ None ∷ []) i ≡ slot_at slots i
  slot_at-hole [] zero = refl
  slot_at-hole [] (suc i) = refl
  slot_at-hole (y ∷ slots) zero = refl
  slot_at-hole (y ∷ slots) (suc i) = slot_at-hole slots i

  listed-hole : (row : List ℕ) (slots : Slots V) → listed row (slots ++ None ∷ []) ≡ listed row slots
  listed-hole [] slots = refl
  listed-hole (r ∷ row) slots = cc (slot_at-hole slots r, listed-hole row slots)

  pub entries-hole : (slots : Slots V) → entries_in (slots ++ None ∷ []) ≡ entries_in slots
  entries-hole slots = entries-append slots (None ∷ []) ∙ append-nil (entries_in slots)

  pub set-last : (slots : Slots V) (x y : Option (List ℕ × V)) → set (slots ++ x ∷ []) (length slots) y ≡ slots ++ y ∷ []
  set-last slots x y = set_at slots x [] y (length slots) refl

  pub get-last : (slots : Slots V) (x : Option (List ℕ × V)) → slice_get (slots ++ x ∷ []) (length slots) ≡ Some x
  get-last slots x = cc (slice_get-get_or (slots ++ x ∷ []) (length slots) x (omega (arith, length_push slots x)), get_or_push slots x x (length slots) refl)

  -- slots of which none is the last one
  within-away : (row : List ℕ) (slots : Slots V) (entry : List ℕ × V) → AllByRecursion (λ i. i < length (slots ++ Some entry ∷ [])) row → value_of entry.0 (entries_in (listed row (slots ++ Some entry ∷ []))) ≡ None → AllByRecursion (λ i. i < length slots) row
  within-away [] slots entry h none = tt
  within-away (r ∷ row) slots entry h none = elim (cases_eq (length slots) r) [
    | inl same ↦
        let here : slot_at (slots ++ Some entry ∷ []) r ≡ Some entry = cc (slot_at-last slots (Some entry)) in
        absurd (cc (rw here at none, known-first entry (listed row (slots ++ Some entry ∷ []))))
    | inr other ↦ (
      omega (arith, h.0, other, length-append slots (Some entry ∷ [])),
      within-away row slots entry h.1 (unknown-rest entry.0 (slot_at (slots ++ Some entry ∷ []) r) (listed row (slots ++ Some entry ∷ [])) none),
    )
  ]

  -- the row without the last slot, whose entry left
  pub order-popped : (row gone rows : List ℕ) (slots : Slots V) (entry : List ℕ × V) → AreApart (entries_in (slots ++ Some entry ∷ [])) → row ≡ rows ++ length slots ∷ [] → IsListed row gone (slots ++ Some entry ∷ []) → IsListed rows gone slots
  order-popped row gone rows slots entry apart last l =
      let before : Slots V = slots ++ Some entry ∷ [] in
      let at = get-last slots (Some entry) in
      let split : listed row before ≡ listed rows before ++ Some entry ∷ [] = cc (listed-split rows (length slots) before, slot_at-last slots (Some entry)) in
      let same : entries_in (listed rows before) ≡ entries_in slots = append_cancel_right _ _ (entry ∷ []) (cc (entries-append (listed rows before) (Some entry ∷ []), entries-append slots (Some entry ∷ []))) in
      let none : value_of entry.0 (entries_in slots) ≡ None = unknown-where entry.0 slots (cc (take-append_seam slots (Some entry ∷ []), first-at before (length slots) entry apart at)) in
      let away : value_of entry.0 (entries_in (listed rows before)) ≡ None = cc in
      let alike : listed rows slots ≡ listed rows before = cc (listed-hole rows slots, set-last slots (Some entry) None, listed-away rows before (length slots) None entry at away) in
      record {
        within = within-away rows slots entry (within-front rows (length slots) (length before) (rw last at l.within)) away;
        entries = cc;
        places = cc (holes-last 0 (listed rows before) entry);
      }

-- ---- a row that may be none

pub some-filtered : (p : ℕ → Bool) (row : List ℕ) → 0 < length (filter p row) → 0 < length row
some-filtered p [] h = h
some-filtered p (r ∷ row) h = omega arith

module _ {V : Type 0} where
  -- all slots that have an entry
  pub order-all : (slots : Slots V) → IsListed (filter (λ i. is_some (slot_at slots i)) (range_with_len 0 (length slots))) [] slots
  order-all slots = order-kept (range_with_len 0 (length slots)) (holes_from 0 slots) _ [] slots refl refl (order-range slots)

  -- ---- the list after a change

  pub list-set : (index : List (List ℕ × ℕ)) (slots : Slots V) (holes : ℕ) (row gone : List ℕ) (addr : List ℕ) (i : ℕ) (before value : V) → IsAddressMap index slots holes row gone → IsAt addr slots i before → IsAddressMap index (set slots i (Some (addr, value))) holes row gone
  list-set index slots holes row gone addr i before value l at = record {
    apart = subst AreApart (sym (entries-with_entry addr slots i before value at)) (apart-set addr value (entries_in slots) l.apart);
    found = λ q. l.found q ∙ sym (found-set q slots i addr before value at.slot);
    rest = omega (arith, l.rest, count-set slots i (addr, before) (addr, value) at.slot, length-set slots i (Some (addr, value)));
    listed = λ some. order-set row gone slots i addr before value l.apart at (l.listed some);
  }

  pub takes-out : (slots : Slots V) (addr : List ℕ) (i : ℕ) (before : V) → AreApart (entries_in slots) → IsAt addr slots i before → TakesOut i slots (set slots i None)
  takes-out slots addr i before apart at = record { entry = (addr, before); apart = apart; slot = at.slot; hole = refl }

  pub list-out : (old new : List (List ℕ × ℕ)) (slots : Slots V) (holes : ℕ) (row gone row' gone' : List ℕ) (addr : List ℕ) (i : ℕ) (before : V) → IsAddressMap old slots holes row gone → IsAt addr slots i before
      → ((q : List ℕ) → lookup (bytes_eq q) new ≡ cond (bytes_eq addr q) None (lookup (bytes_eq q) old)) → MayList row' gone' (set slots i None) → IsAddressMap new (set slots i None) (holes + 1) row' gone'
  list-out old new slots holes row gone row' gone' addr i before l at left order = record {
    apart = subst AreApart (sym (entries-out addr slots i at.place)) (apart-removed addr (entries_in slots) l.apart);
    found = λ q. left q ∙ ap (cond (bytes_eq addr q) None) (l.found q) ∙ sym (found-out q addr slots i l.apart at.place);
    rest = omega (arith, l.rest, count-out slots i (addr, before) at.slot, length-set slots i None);
    listed = order;
  }

  -- no slot is left where none had an entry
  pub list-cleared : (index : List (List ℕ × ℕ)) (slots none : Slots V) (holes : ℕ) (row gone row' gone' : List ℕ) → IsAddressMap index slots holes row gone → entries_in slots ≡ [] → none ≡ [] → row' ≡ [] → IsAddressMap index none 0 row' gone'
  list-cleared index slots none holes row gone row' gone' l empty cleared unlisted = record {
    apart = subst (λ (s : Slots V). AreApart (entries_in s)) (sym cleared) tt;
    found = λ q. l.found q ∙ slot_of-none q slots (ap (value_of q) empty) ∙ ap (slot_of q) (sym cleared);
    rest = subst (λ (s : Slots V). length (entries_in s) + 0 ≡ length s) (sym cleared) refl;
    listed = λ some. let long : length row' ≡ 0 = ap length unlisted in absurd (omega (arith, long, some));
  }

-- the last slot that is listed goes with its entry
row-popped : (row : List ℕ) (i : ℕ) → 0 < length row → slice_get row (length row - 1) ≡ Some i → row ≡ take (length row - 1) row ++ i ∷ []
row-popped row i some at =
    cc (take_all (length row - 1 + 1) row (omega arith), take_more row (length row - 1) 0 (omega arith), get_or_from_slice_get row (length row - 1) i 0 at)

module _ {V : Type 0} where
  pub may-list-popped : (row gone rows : List ℕ) (slots : Slots V) (entry : List ℕ × V) → AreApart (entries_in (slots ++ Some entry ∷ [])) → EndsWith (length slots) row → rows ≡ take (length row - 1) row → MayList row gone (slots ++ Some entry ∷ []) → MayList rows gone slots
  may-list-popped row gone rows slots entry apart ends is l some =
      let long : 0 < length row = omega (arith, ap length is, length-take (length row - 1) row, some) in
      order-popped row gone rows slots entry apart (cc (row-popped row (length slots) long (ends long))) (l long)

  -- the entry in the last slot left, and the slot is gone

  pub slots-popped : (slots front : Slots V) (i k : ℕ) (x : Option (List ℕ × V)) → slice_get slots i ≡ Some x → i + 1 ≡ length slots → i ≡ k → front ≡ take k slots → (slots ≡ front ++ x ∷ []) × (i ≡ length front)
  slots-popped slots front i k x at last is cut = (cc (take_all (i + 1) slots (omega arith), taken-at slots i x at), omega (arith, ap length cut, length-take k slots))

  out-popped : (slots front : Slots V) (i : ℕ) (x : Option (List ℕ × V)) → slots ≡ front ++ x ∷ [] → i ≡ length front → set slots i None ≡ front ++ None ∷ []
  out-popped slots front i x is last = ap (λ (s : Slots V). set s i None) is ∙ ap (λ n. set (front ++ x ∷ []) n None) last ∙ set-last front x None

  pub entries-popped : (addr : List ℕ) (slots front : Slots V) (i : ℕ) (x : Option (List ℕ × V)) → slot_of addr slots ≡ Some i → slots ≡ front ++ x ∷ [] → i ≡ length front → entries_in front ≡ remove_entry (bytes_eq addr) (entries_in slots)
  entries-popped addr slots front i x place is last = sym (ap entries_in (out-popped slots front i x is last) ∙ entries-hole front) ∙ entries-out addr slots i place

  pub list-popped : (old new : List (List ℕ × ℕ)) (slots front : Slots V) (holes : ℕ) (row gone row' gone' : List ℕ) (addr : List ℕ) (i : ℕ) (before : V) → IsAddressMap old slots holes row gone → IsAt addr slots i before → slots ≡ front ++ Some (addr, before) ∷ [] → i ≡ length front
      → ((q : List ℕ) → lookup (bytes_eq q) new ≡ cond (bytes_eq addr q) None (lookup (bytes_eq q) old)) → EndsWith i row → row' ≡ take (length row - 1) row → gone' ≡ gone → IsAddressMap new front holes row' gone'
  list-popped old new slots front holes row gone row' gone' addr i before l at is last left ends popped same =
      let left-out : entries_in front ≡ remove_entry (bytes_eq addr) (entries_in slots) = entries-popped addr slots front i (Some (addr, before)) at.place is last in
      record {
        apart = subst AreApart (sym left-out) (apart-removed addr (entries_in slots) l.apart);
        found = λ q. left q ∙ ap (cond (bytes_eq addr q) None) (l.found q) ∙ sym (found-out q addr slots i l.apart at.place) ∙ ap (slot_of q) (out-popped slots front i (Some (addr, before)) is last) ∙ found-hole q front;
        rest = omega (arith, l.rest, count-out slots i (addr, before) at.slot, ap length (entries-out addr slots i at.place), ap length left-out, ap length is, length-append front (Some (addr, before) ∷ []));
        listed = subst (λ (g : List ℕ). MayList row' g front) (sym same) (may-list-popped row gone row' front (addr, before) (subst (λ (s : Slots V). AreApart (entries_in s)) is l.apart) (subst (λ n. EndsWith n row) last ends) popped (subst (MayList row gone) is l.listed));
      }

  pub list-last : (old new : List (List ℕ × ℕ)) (slots : Slots V) (holes : ℕ) (row gone row' gone' : List ℕ) (addr : List ℕ) (value : V) → IsAddressMap old slots holes row gone → value_of addr (entries_in slots) ≡ None
      → ((q : List ℕ) → lookup (bytes_eq q) new ≡ cond (bytes_eq addr q) (Some (length slots)) (lookup (bytes_eq q) old)) → MayList row' gone' (slots ++ Some (addr, value) ∷ []) → IsAddressMap new (slots ++ Some (addr, value) ∷ []) holes row' gone'
  list-last old new slots holes row gone row' gone' addr value l unknown put order = record {
    apart = subst AreApart (with_entry-unknown addr value (entries_in slots) unknown ∙ sym (entries-last addr value slots)) (apart-set addr value (entries_in slots) l.apart);
    found = λ q. put q ∙ ap (cond (bytes_eq addr q) (Some (length slots))) (l.found q) ∙ sym (found-last q addr value slots (slot_of-none addr slots unknown));
    rest = omega (arith, l.rest, ap length (entries-last addr value slots), length-append (entries_in slots) ((addr, value) ∷ []), length-append slots (Some (addr, value) ∷ []));
    listed = order;
  }

  -- one slot more in a row that has some
  pub may-list-last : (row gone row' gone' : List ℕ) (slots : Slots V) (entry : List ℕ × V) → MayList row gone slots → (0 < length row → row' ≡ row ++ length slots ∷ []) → (length row ≡ 0 → row' ≡ []) → gone' ≡ gone → MayList row' gone' (slots ++ Some entry ∷ [])
  may-list-last [] gone row' gone' slots entry l more none same some = absurd (omega (arith, ap length (none refl), some))
  may-list-last (r ∷ row) gone row' gone' slots entry l more none same some =
      rw (same, more (omega arith)) (order-last (r ∷ row) gone slots entry (l (omega arith)))

  -- slots without a hole, where no more are listed than before
  pub may-list-numbered : (row gone row' gone' : List ℕ) (before after : Slots V) → MayList row gone before → entries_in after ≡ entries_in before → length (entries_in after) ≡ length after → row' ≡ range_with_len 0 (min (length after) (length row)) → gone' ≡ [] → MayList row' gone' after
  may-list-numbered [] gone row' gone' before after l same full numbered cleared some =
      let none : min (length after) 0 ≡ 0 = omega arith in
      absurd (omega (arith, ap length (numbered ∙ ap (range_with_len 0) none), some))
  may-list-numbered (r ∷ row) gone row' gone' before after l same full numbered cleared some =
      let least : min (length after) (length (r ∷ row)) ≡ length after = omega (arith, order-few (r ∷ row) gone before (l (omega arith)), ap length same, full) in
      order-numbered row' gone' after (numbered ∙ ap (range_with_len 0) least) cleared full
