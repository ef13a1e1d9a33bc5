-- The least number that is free: which it is, and that there is one.
use Rattle.std.proofs.Common.{◌≡◌, ℕ, zero, suc, ◌+◌, ◌<◌, ◌≤◌, Bool, true, false, not, cond, List, [], ◌∷◌, length, Option, Some, None, IsNone, IfSome, IfNone, IsSomeAnd, refl, sym, ap, ◌∙◌, subst, ◌≢◌, inl, inr, arith}
use Rattle.std.specs.Ordering.{nat_cmp}
use Rattle.std.specs.List.{find, range_with_len}
use Rattle.std.specs.Option.{unwrap_or}
use Rattle.std.specs.FinSet as set
use Rattle.std.specs.FinSet.{len-empty, len-insert, contains-from_list_nat}
use Rattle.std.specs.Cmp.{nat_cmp_total}
use Rattle.std.proofs.lemmas.Bool.{ne_eqb, cases_eq, cases_lt, both_ways, true≢false}
use Rattle.aid_pool.specs.LeastFree.{IsLeastFree, least_free, is_among}
use Rattle.aid_pool.proofs.Numbers.{Numbers, contains_removed, len_removed, len_some}

-- ---- the first of a range that passes a test

pub find-range_with_len : (p : ℕ → Bool) (n a k : ℕ) → a ≤ k → k < a + n → ((m : ℕ) → a ≤ m → m < k → p m ≡ false) → p k ≡ true → find p (range_with_len a n) ≡ Some k
find-range_with_len p zero a k from to before at = absurd (omega arith)
find-range_with_len p (suc n) a k from to before at =
    elim (cases_eq a k) [
      | inl same ↦ let here : p a ≡ true = rw same at in rw (here, same) refl
      | inr other ↦
          let here : p a ≡ false = before a (omega arith) (omega arith) in
          rw here (find-range_with_len p n (a + 1) k (omega arith) (omega arith) (λ m f t. before m (omega arith) t) at)
    ]

-- the number of the relation is the one that is found
pub least_free_is : (is_out : ℕ → Bool) (n : ℕ) → IsLeastFree is_out n → n ≡ least_free is_out
unfolding least_free
least_free_is is_out n h =
    sym (ap (λ o. unwrap_or o 0)
    (find-range_with_len (λ m. not (is_out m)) 2007 1 n h.first (omega (arith, h.last)) (λ m from to. ap not (h.least m from to)) (ap not h.free)))

-- ---- a set of fewer than n numbers leaves one of 1 to n free

-- a number from 1 to n that is free
record IsFreeWithin (is_out : ℕ → Bool) (n k : ℕ) : Type 0 where
  first : 1 ≤ k
  last : k ≤ n
  free : is_out k ≡ false

free_within : (n : ℕ) (s : Numbers) → set.len s < n → (k : ℕ) × IsFreeWithin (set.contains s) n k
free_within zero s few = absurd (omega arith)
free_within (suc n) s few =
    elim (set.contains s (suc n)) as (λ b. set.contains s (suc n) ≡ b → (k : ℕ) × IsFreeWithin (set.contains s) (suc n) k) [
      | false ↦ λ free. (suc n, record { first = omega arith; last = omega arith; free = free })
      | true ↦ λ out.
          let fewer : set.len (set.remove s (suc n)) < n = omega (arith, len_removed s (suc n) out, len_some s (suc n) out) in
          let found = free_within n (set.remove s (suc n)) fewer in
          let last = found.1.last in
          let stays : set.contains (set.remove s (suc n)) found.0 ≡ set.contains s found.0 =
          contains_removed s (suc n) found.0 ∙ rw (ne_eqb found.0 (suc n) (omega arith)) refl in
          (found.0, record { first = found.1.first; last = omega arith; free = sym stays ∙ found.1.free })
    ] refl

-- ---- where there is a number that is free, there is a least one

-- the least number from 1 on that is free
record IsFirstFree (is_out : ℕ → Bool) (n : ℕ) : Type 0 where
  first : 1 ≤ n
  free : is_out n ≡ false
  least : (m : ℕ) → 1 ≤ m → m < n → is_out m ≡ true

first_free : (is_out : ℕ → Bool) (k n a : ℕ) → is_out k ≡ false → 1 ≤ a → a ≤ k → k < a + n → ((m : ℕ) → 1 ≤ m → m < a → is_out m ≡ true) → (m : ℕ) × (m ≤ k) × IsFirstFree is_out m
first_free is_out k zero a free some from to before = absurd (omega arith)
first_free is_out k (suc n) a free some from to before =
    elim (is_out a) as (λ b. is_out a ≡ b → (m : ℕ) × (m ≤ k) × IsFirstFree is_out m) [
      | false ↦ λ here. (a, from, record { first = some; free = here; least = before })
      | true ↦ λ here.
          let past : a ≢ k = λ same. both_ways (is_out k) free (ap is_out (sym same) ∙ here) in
          first_free is_out k n (a + 1) free (omega arith) (omega arith) (omega arith)
          (λ m f t. elim (cases_eq m a) [ inl same ↦ rw same here | inr other ↦ before m f (omega arith) ])
    ] refl

-- a set of fewer than 2007 numbers leaves one free, at most one above their count
pub least_of_set : (s : Numbers) → set.len s < 2007 → IsLeastFree (set.contains s) (least_free (set.contains s)) × (least_free (set.contains s) ≤ set.len s + 1)
least_of_set s few =
    let some = free_within (set.len s + 1) s (omega arith) in
    let start = some.1.first in
    let last = some.1.last in
    let found = first_free (set.contains s) some.0 some.0 1 some.1.free (omega arith) start (omega arith) (λ m f t. absurd (omega arith)) in
    let bound = found.1 in
    let is : IsLeastFree (set.contains s) found.0 =
    record { first = found.2.first; last = omega arith; free = found.2.free; least = found.2.least } in
    let same = least_free_is (set.contains s) found.0 is in
    (subst (IsLeastFree (set.contains s)) same is, subst (λ n. n ≤ set.len s + 1) same (omega arith))

-- ---- the same of a list of numbers

at_most_one_more : (b : Bool) (n : ℕ) → cond b n (n + 1) ≤ n + 1
at_most_one_more true n = omega arith
at_most_one_more false n = omega arith

pub len-from_list : (ns : List ℕ) → set.len (set.from_list {R = nat_cmp} ns) ≤ length ns
len-from_list [] = omega (arith, len-empty nat_cmp)
len-from_list (n ∷ ns) =
    let numbers = set.from_list {R = nat_cmp} ns in
    let more : set.len (set.insert numbers n) ≤ set.len numbers + 1 =
    rw (len-insert nat_cmp_total numbers n) (at_most_one_more (set.contains numbers n) (set.len numbers)) in
    omega (arith, more, len-from_list ns)

pub least_of_list : (ns : List ℕ) → length ns < 2007 → IsLeastFree (is_among ns) (least_free (is_among ns)) × (least_free (is_among ns) ≤ length ns + 1)
least_of_list ns few =
    let same : set.contains (set.from_list {R = nat_cmp} ns) ≡ is_among ns = λ i q. contains-from_list_nat ns q i in
    let fewer = len-from_list ns in
    let of_set = least_of_set (set.from_list ns) (omega arith) in
    let bound : least_free (set.contains (set.from_list {R = nat_cmp} ns)) ≤ length ns + 1 = omega (arith, of_set.1) in
    (subst (λ t. IsLeastFree t (least_free t)) same of_set.0, subst (λ t. least_free t ≤ length ns + 1) same bound)

-- ---- what is found

-- a set of fewer than 2007 numbers hasn't each identifier
pub some_is_absent : (s : Numbers) → set.len s < 2007 → ((m : ℕ) → 1 ≤ m → m ≤ 2007 → set.contains s m ≡ true) → ⊥
some_is_absent s few all =
    let least = (least_of_set s few).0 in
    both_ways _ least.free (all (least_free (set.contains s)) least.first least.last)

-- the first number that it hasn't is the least that is free
pub least_absent_is : (s : Numbers) (n : ℕ) → set.len s < 2007 → 1 ≤ n → set.contains s n ≡ false → ((m : ℕ) → 1 ≤ m → m ≤ 2007 → m < n → set.contains s m ≡ true) → IsLeastFree (set.contains s) n
least_absent_is s n few some absent before =
    let least = (least_of_set s few).0 in
    let first = least.first in
    let last = least.last in
    let within : n ≤ 2007 = elim (cases_lt (least_free (set.contains s)) n) [
      | inl earlier ↦ absurd (both_ways _ least.free (before (least_free (set.contains s)) first last earlier))
      | inr later ↦ omega arith
    ] in
    record { first = some; last = within; free = absent; least = λ m from to. before m from (omega arith) to }

-- so what is answered is the least that is free
pub found_is_least : (s : Numbers) (r : Option ℕ) → set.len s < 2007 → IfSome r (λ n. 1 ≤ n) → IfSome r (λ n. set.contains s n ≡ false) → IfSome r (λ n. (m : ℕ) → 1 ≤ m → m ≤ 2007 → m < n → set.contains s m ≡ true) → IfNone r ((m : ℕ) → 1 ≤ m → m ≤ 2007 → set.contains s m ≡ true) → IsSomeAnd r (IsLeastFree (set.contains s))
found_is_least s None few some absent before all = absurd (some_is_absent s few all)
found_is_least s (Some n) few some absent before all = least_absent_is s n few some absent before

pub found_some : (is_out : ℕ → Bool) (r : Option ℕ) → IsSomeAnd r (IsLeastFree is_out) → IsNone r → ⊥
found_some is_out None found none = found
found_some is_out (Some n) found none = true≢false none

pub found_least : (is_out : ℕ → Bool) (r : Option ℕ) → IsSomeAnd r (IsLeastFree is_out) → IfSome r (IsLeastFree is_out)
found_least is_out None found = tt
found_least is_out (Some n) found = found

pub found_number : (is_out : ℕ → Bool) (r : Option ℕ) → IsSomeAnd r (IsLeastFree is_out) → IfSome r (λ n. n ≡ least_free is_out)
found_number is_out None found = tt
found_number is_out (Some n) found = least_free_is is_out n found
