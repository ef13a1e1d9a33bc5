-- An index is told the place that each slot of it has in a row, which is where its entry stands once no slot is a hole.
use Rattle.std.proofs.Common.{◌≡◌, ℕ, zero, suc, ◌+◌, ◌<◌, ◌≤◌, Bool, true, false, List, [], ◌∷◌, ◌++◌, length, take, drop, map, get_or, filter, slice_get, Result, Ok, Err, Option, Some, None, is_some, option_map, refl, sym, ap, subst, ◌∙◌, arith, inl, inr, nat_cmp}
use Rattle.std.specs.Prelude.{nat_eq, IfSome, MatchResult}
use Rattle.std.specs.List.{IsDistinct, range_with_len}
use Rattle.std.specs.List.Sorted.{IsBinarySearchResult}
use Rattle.std.specs.Map.{lookup, keys_of, values_of}
use Rattle.std.specs.Str.{bytes_eq}
use Rattle.indexmap.specs.IndexMap.{set_value_at}
use Rattle.std.proofs.lemmas.Bool.{cases_lt, cond_both, eq-eqb, eqb-true, ne_eqb}
use Rattle.std.proofs.lemmas.List.Sorted.{searched}
use Rattle.std.proofs.lemmas.Map.Entries.{lookup_from_place}
use Rattle.std.proofs.lemmas.Cmp.{nat_list_eq_equiv}
use Rattle.std.proofs.lemmas.Map.Made.{lookup-map_values}
use Rattle.std.proofs.lemmas.Option.{slice_get-get_or, slice_get_within, get_or_from_slice_get}
use Rattle.address_map.specs.Entries.{value_of, AreApart}
use Rattle.address_map.specs.Slots.{Slots, entries_in, slot_of, AreFound, slot_at, listed, holes_from, Rises, place_in, AreIn, with_places, IsListed}
use Rattle.address_map.proofs.FoundSlots.{slot_of-at, slot_of-none, unknown-where}
use Rattle.address_map.proofs.SlotOrder.{no-holes, one_slot, slot_at-get, slot_at-some, slot_of-here, listed-get, place-of, order-all, rises-from, rises-order}

-- ---- a place in a row

rises-above : (n : ℕ) (xs : List ℕ) (k x : ℕ) → Rises n xs → slice_get xs k ≡ Some x → n ≤ x
rises-above n [] k x h at = absurd (cc)
rises-above n (y ∷ xs) zero x h at = let same : y ≡ x = cc in omega (arith, h.0, same)
rises-above n (y ∷ xs) (suc k) x h at = let rest = rises-above (suc y) xs k x h.1 at in omega (arith, rest, h.0)

-- of numbers that rise each has one place
pub place-is : (n : ℕ) (xs : List ℕ) (k x : ℕ) → Rises n xs → slice_get xs k ≡ Some x → k ≡ place_in xs x
place-is n [] k x h at = absurd (cc)
place-is n (y ∷ xs) zero x h at = let same : nat_eq y x ≡ true = eq-eqb y x cc in rw same refl
place-is n (y ∷ xs) (suc k) x h at =
    let other : nat_eq y x ≡ false = ne_eqb y x (λ same. omega (arith, same, rises-above (suc y) xs k x h.1 at)) in
    rw other (ap (λ m. suc m) (place-is (suc y) xs k x h.1 at))

-- what stands in a row stands at its place
pub place-there : (xs : List ℕ) (k x : ℕ) → slice_get xs k ≡ Some x → slice_get xs (place_in xs x) ≡ Some x
place-there [] k x at = absurd (cc)
place-there (y ∷ xs) zero x at = let same : nat_eq y x ≡ true = eq-eqb y x cc in rw same cc
place-there (y ∷ xs) (suc k) x at = grind (arith, place-there xs k x at, eqb-true y x)

-- ---- entries of an index

pub value-at : (es : List (List ℕ × ℕ)) (i v : ℕ) → slice_get (values_of es) i ≡ Some v → (k : List ℕ) × (slice_get es i ≡ Some (k, v))
value-at [] i v h = absurd (cc)
value-at (e ∷ es) zero v h = let is : e.1 ≡ v = cc in (e.0, ap (λ n. Some (e.0, n)) is)
value-at (e ∷ es) (suc i) v h = value-at es i v h

pub lookup-own : (es : List (List ℕ × ℕ)) (i : ℕ) (e : List ℕ × ℕ) → IsDistinct bytes_eq (keys_of es) → slice_get es i ≡ Some e → lookup (bytes_eq e.0) es ≡ Some e.1
lookup-own es i e h at = lookup_from_place nat_list_eq_equiv es i e.0 e.1 h at

-- ---- so many entries have their places

pub slot-left : (row : List ℕ) (es : List (List ℕ × ℕ)) (i : ℕ) → slice_get (with_places row (take i es) ++ drop i es) i ≡ slice_get es i
slot-left row [] zero = refl
slot-left row [] (suc i) = refl
slot-left row (e ∷ es) zero = refl
slot-left row (e ∷ es) (suc i) = slot-left row es i

pub place-put : (row : List ℕ) (es : List (List ℕ × ℕ)) (i : ℕ) (e : List ℕ × ℕ) → slice_get es i ≡ Some e → set_value_at (with_places row (take i es) ++ drop i es) i (place_in row e.1) ≡ with_places row (take (suc i) es) ++ drop (suc i) es
place-put row [] i e at = absurd (cc)
place-put row (x ∷ es) zero e at = let same : x ≡ e = cc in ap (λ (y : List ℕ × ℕ). (x.0, place_in row y.1) ∷ es) (sym same)
place-put row (x ∷ es) (suc i) e at = ap (λ (t : List (List ℕ × ℕ)). (x.0, place_in row x.1) ∷ t) (place-put row es i e at)

module _ {V : Type 0} where
  -- ---- a row of the slots that have an entry

  full-is : (n : ℕ) (slots : Slots V) → holes_from n slots ≡ [] → slots ≡ map (λ (s : List ℕ × V). Some s) (entries_in slots)
  full-is n [] h = refl
  full-is n (None ∷ slots) h = absurd (cc)
  full-is n (Some e ∷ slots) h = ap (λ (s : Slots V). Some e ∷ s) (full-is (suc n) slots h)

  same_row : (n : ℕ) (a b : List ℕ) (slots : Slots V) → AreApart (entries_in slots) → holes_from n (listed a slots) ≡ [] → listed a slots ≡ listed b slots → a ≡ b
  same_row n [] [] slots apart full same = refl
  same_row n [] (y ∷ b) slots apart full same = absurd (cc)
  same_row n (x ∷ a) [] slots apart full same = absurd (cc)
  same_row n (x ∷ a) (y ∷ b) slots apart full same = by (slot_at slots x) refl full (same_row (suc n) a b slots apart)
    where
      by : (o : Option (List ℕ × V)) → slot_at slots x ≡ o → holes_from n (o ∷ listed a slots) ≡ [] → (holes_from (suc n) (listed a slots) ≡ [] → listed a slots ≡ listed b slots → a ≡ b) → x ∷ a ≡ y ∷ b
      by None here none later = absurd (cc)
      by (Some e) here none later = cc (one_slot slots x y e e.1 apart (slot_at-some slots x e here) cc, later none cc)

rises-filter : (n : ℕ) (p : ℕ → Bool) (xs : List ℕ) → Rises n xs → Rises n (filter p xs)
rises-filter n p [] h = tt
rises-filter n p (x ∷ xs) h =
    let rest = rises-filter (suc x) p xs h.1 in
    cond_both (p x) _ _ (Rises n) (λ _. (h.0, rest)) (λ _. rises-from n (suc x) (filter p xs) (omega (arith, h.0)) rest)

rises-range : (a m : ℕ) → Rises a (range_with_len a m)
rises-range a zero = tt
rises-range a (suc m) = let next : a + 1 ≡ suc a = omega arith in (omega arith, subst (λ k. Rises k (range_with_len (a + 1) m)) next (rises-range (a + 1) m))

module _ {V : Type 0} where
  -- a row without holes rises
  pub row-rises : (row : List ℕ) (slots : Slots V) → AreApart (entries_in slots) → IsListed row [] slots → Rises 0 row
  row-rises row slots apart l =
      let p : ℕ → Bool = λ i. is_some (slot_at slots i) in
      let all : List ℕ = filter p (range_with_len 0 (length slots)) in
      let a = order-all slots in
      let equal : listed row slots ≡ listed all slots = cc (full-is 0 (listed row slots) (sym l.places), full-is 0 (listed all slots) (sym a.places)) in
      rw (same_row 0 row all slots apart (sym l.places) equal) (rises-filter 0 p (range_with_len 0 (length slots)) (rises-range 0 (length slots)))

  -- each slot of the index stands in it
  pub slots-in : (index : List (List ℕ × ℕ)) (row : List ℕ) (slots : Slots V) → AreApart (entries_in slots) → AreFound index slots → IsListed row [] slots → AreIn row index
  slots-in index row slots apart found l addr = rw (found addr) (by (slot_of addr slots) refl)
    where
      by : (o : Option ℕ) → slot_of addr slots ≡ o → IfSome o (λ i. slice_get row (place_in row i) ≡ Some i)
      by None is = tt
      by (Some i) is =
          let at = slot_of-at addr slots i is in
          let q = place-of row slots i (addr, at.0) apart l.entries at.1.slot in
          place-there row q.0 i q.1

  -- where no slot is a hole any more, each entry stands at the place that its slot had in the row
  pub found-moved : (index : List (List ℕ × ℕ)) (row : List ℕ) (before after : Slots V) → AreApart (entries_in before) → AreFound index before → IsListed row [] before → entries_in after ≡ entries_in before → length (entries_in after) ≡ length after → AreFound (with_places row index) after
  found-moved index row before after apart found l same full addr =
      lookup-map_values (place_in row) (bytes_eq addr) index ∙ ap (option_map (place_in row)) (found addr) ∙ by (slot_of addr before) refl
    where
      moved : listed row before ≡ after
      moved = cc (full-is 0 (listed row before) (sym l.places), full-is 0 after (no-holes after full))

      by : (o : Option ℕ) → slot_of addr before ≡ o → option_map (place_in row) o ≡ slot_of addr after
      by None is = sym (slot_of-none addr after (ap (value_of addr) same ∙ unknown-where addr before is))
      by (Some i) is =
          let at = slot_of-at addr before i is in
          let q = place-of row before i (addr, at.0) apart l.entries at.1.slot in
          let there : slice_get (listed row before) (place_in row i) ≡ Some (Some (addr, at.0)) = cc (listed-get row before (place_in row i) i (place-there row q.0 i q.1), slot_at-get before i (Some (addr, at.0)) at.1.slot) in
          sym (slot_of-here after (place_in row i) (addr, at.0) (rw same apart) (rw moved at there))

-- ---- a search by halves

-- what stands in the row is found, at its place
pub found-there : (row : List ℕ) (k x : ℕ) (r : Result ℕ ℕ) → Rises 0 row → IsBinarySearchResult (λ y. nat_cmp y x) row r → slice_get row k ≡ Some x → r ≡ Ok (place_in row x)
found-there row k x r rise h at = by r (searched row x r h (λ i j le low. rises-order 0 row rise i j 0 le low))
  where
    there : get_or row k 0 ≡ x
    there = get_or_from_slice_get row k x 0 at

    by : (r : Result ℕ ℕ) → MatchResult r (λ i. (i < length row) × (get_or row i 0 ≡ x)) (λ i. (i ≤ length row) × ((j : ℕ) → j < i → get_or row j 0 < x) × ((j : ℕ) → i ≤ j → j < length row → x < get_or row j 0)) → r ≡ Ok (place_in row x)
    by (Ok i) s = ap (λ n. Ok n) (place-is 0 row i x rise (slice_get-get_or row i 0 s.0 ∙ ap (λ n. Some n) s.1))
    by (Err i) s = elim (cases_lt k i) [ inl low ↦ absurd (omega (arith, s.1 k low, there)) | inr high ↦ absurd (omega (arith, s.2 k high (slice_get_within row k x at), there)) ]
