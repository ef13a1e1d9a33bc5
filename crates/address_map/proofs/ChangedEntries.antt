-- The value of one address is set, or one is taken out: what becomes of the others.
use Rattle.std.proofs.Common.{◌≡◌, ℕ, true, false, List, [], ◌∷◌, ◌++◌, None, is_some, refl, sym, inl, inr, arith}
use Rattle.std.specs.Map.{set_value, remove_entry}
use Rattle.std.specs.Str.{bytes_eq}
use Rattle.std.proofs.lemmas.Bool.{both_ways, cases_Bool, false_from_ne_true}
use Rattle.std.proofs.lemmas.Slice.Eq.{bytes_eq-Decides}
use Rattle.address_map.specs.Entries.{Entries, value_of, with_entry, AreApart}

module _ {V : Type 0} where
  -- ---- an address that is not there

  pub with_entry-unknown : (addr : List ℕ) (value : V) (t : Entries V) → value_of addr t ≡ None → with_entry addr value t ≡ t ++ (addr, value) ∷ []
  with_entry-unknown addr value [] h = refl
  with_entry-unknown addr value (e ∷ t) h = grind (arith, h, with_entry-unknown addr value t)

  pub remove-unknown : (addr : List ℕ) (t : Entries V) → value_of addr t ≡ None → remove_entry (bytes_eq addr) t ≡ t
  remove-unknown addr [] h = refl
  remove-unknown addr (e ∷ t) h = grind (arith, h, remove-unknown addr t)

  pub set_value-is_with_entry : (addr : List ℕ) (value : V) (t : Entries V) → is_some (value_of addr t) ≡ true → set_value (bytes_eq addr) t value ≡ with_entry addr value t
  set_value-is_with_entry addr value [] h = absurd (cc)
  set_value-is_with_entry addr value (e ∷ t) h = grind (arith, h, set_value-is_with_entry addr value t)

-- ---- no address stands twice

pub other_way : (a b : List ℕ) → bytes_eq a b ≡ false → bytes_eq b a ≡ false
other_way a b h = false_from_ne_true (bytes_eq b a) (λ same. both_ways (bytes_eq a b) h ((bytes_eq-Decides a b).1 (sym ((bytes_eq-Decides b a).0 same))))

module _ {V : Type 0} where
  -- another address that is not there does not come
  pub unknown-stays : (k a : List ℕ) (l : V) (t : Entries V) → bytes_eq k a ≡ false → value_of k t ≡ None → value_of k (with_entry a l t) ≡ None
  unknown-stays k a l [] other h = rw other refl
  unknown-stays k a l (e ∷ t) other h = grind (arith, other, h, unknown-stays k a l t other)

  unknown-stays_removed : (k a : List ℕ) (t : Entries V) → value_of k t ≡ None → value_of k (remove_entry (bytes_eq a) t) ≡ None
  unknown-stays_removed k a [] h = refl
  unknown-stays_removed k a (e ∷ t) h = grind (arith, h, unknown-stays_removed k a t)

  pub apart-set : (a : List ℕ) (l : V) (t : Entries V) → AreApart t → AreApart (with_entry a l t)
  apart-set a l [] h = (refl, tt)
  apart-set a l (e ∷ t) h = elim (cases_Bool (bytes_eq a e.0)) [
    | inl same ↦ rw same h
    | inr apart ↦ rw apart (unknown-stays e.0 a l t (other_way a e.0 apart) h.0, apart-set a l t h.1)
  ]

  pub apart-removed : (a : List ℕ) (t : Entries V) → AreApart t → AreApart (remove_entry (bytes_eq a) t)
  apart-removed a [] h = tt
  apart-removed a (e ∷ t) h = elim (cases_Bool (bytes_eq a e.0)) [
    | inl same ↦ rw same h.1
    | inr apart ↦ rw apart (unknown-stays_removed e.0 a t h.0, apart-removed a t h.1)
  ]
