-- The set of the numbers whose marks are set, one number at a time.
use Rattle.std.proofs.Common.{◌≡◌, ℕ, zero, suc, ◌+◌, ◌-◌, ◌<◌, ◌≤◌, Bool, true, false, not, ◌&&◌, ◌||◌, eqb, filter, List, refl, inl, inr, sym, ap, ◌∙◌, arith}
use Rattle.std.specs.List.{range_with_len}
use Rattle.std.specs.Ordering.{nat_cmp}
use Rattle.std.specs.Cmp.{nat_cmp_total, unsigned_tied}
use Rattle.std.specs.FinSet as set
use Rattle.std.specs.FinSet.{FinSet, contains-empty, contains-insert, contains-remove, len-insert, len-remove, same_set, nat_cmp-IsAntisymmetric}
use Rattle.std.proofs.lemmas.Bool.{eq-eqb, ne_eqb, cases_lt, cases_eq, cases_Bool, both_ways}
use Rattle.std.proofs.lemmas.Bool.Decides.{nat_tests}
use Rattle.aid_pool.specs.Pool.{Pool}
use Rattle.aid_pool.specs.Marks.{has_mark, numbers_of}

abbrev pub Numbers : Type 0
Numbers = FinSet nat_cmp

-- ---- a set of numbers after a change

pub contains_inserted : (s : Numbers) (k q : ℕ) → set.contains (set.insert s k) q ≡ (eqb q k || set.contains s q)
contains_inserted s k q = contains-insert nat_cmp_total s k q ∙ ap (λ b. b || set.contains s q) (unsigned_tied q k)

pub contains_removed : (s : Numbers) (k q : ℕ) → set.contains (set.remove s k) q ≡ (not (eqb q k) && set.contains s q)
contains_removed s k q = contains-remove nat_cmp_total s k q ∙ ap (λ b. not b && set.contains s q) (unsigned_tied q k)

pub same_numbers : (s t : Numbers) → ((q : ℕ) → set.contains s q ≡ set.contains t q) → s ≡ t
same_numbers = same_set nat_cmp_total nat_cmp-IsAntisymmetric

-- ---- the set of the numbers of a range that pass a test

abbrev passing : (ℕ → Bool) → ℕ → ℕ → Numbers
passing test from count = set.from_list (filter test (range_with_len from count))

-- one more number in front
passing_more : (test : ℕ → Bool) (a n q : ℕ) → set.contains (passing test a (suc n)) q ≡ ((eqb q a && test a) || set.contains (passing test (a + 1) n) q)
passing_more test a n q = grind (arith, contains_inserted (passing test (a + 1) n) a q)

-- a number that isn't the first
passing_other : (test : ℕ → Bool) (a n q : ℕ) → (q ≡ a → ⊥) → set.contains (passing test a (suc n)) q ≡ set.contains (passing test (a + 1) n) q
passing_other test a n q other = grind (arith, nat_tests, other, passing_more test a n q)

before_all : (test : ℕ → Bool) (n a q : ℕ) → q < a → set.contains (passing test a n) q ≡ false
before_all test zero a q below = contains-empty nat_cmp q
before_all test (suc n) a q below =
    passing_other test a n q (omega arith) ∙ before_all test n (a + 1) q (omega arith)

past_all : (test : ℕ → Bool) (n a q : ℕ) → a + n ≤ q → set.contains (passing test a n) q ≡ false
past_all test zero a q past = contains-empty nat_cmp q
past_all test (suc n) a q past =
    passing_other test a n q (omega arith) ∙ past_all test n (a + 1) q (omega arith)

within_all : (test : ℕ → Bool) (n a q : ℕ) → a ≤ q → q < a + n → set.contains (passing test a n) q ≡ test q
within_all test zero a q from to = absurd (omega arith)
within_all test (suc n) a q from to = grind (arith, nat_tests, passing_more test a n q, before_all test n (a + 1) q, within_all test n (a + 1) q)

-- ---- the set of the marks that are set

-- an identifier is in the set where its mark is set
pub contains-numbers_of : (words : List ℕ) (q : ℕ) → 1 ≤ q → q ≤ 2007 → set.contains (numbers_of words) q ≡ has_mark words q
unfolding numbers_of
contains-numbers_of words q some fits = within_all (has_mark words) 2007 1 q some (omega arith)

-- any other number isn't
pub not_contained : (words : List ℕ) (q : ℕ) → (1 ≤ q → q ≤ 2007 → ⊥) → set.contains (numbers_of words) q ≡ false
unfolding numbers_of
not_contained words q outside =
    elim (cases_lt q 1) [
      | inl none ↦ before_all (has_mark words) 2007 1 q none
      | inr some ↦ past_all (has_mark words) 2007 1 q
          (elim (cases_lt q 2008) [ inl fits ↦ absurd (outside some (omega arith)) | inr past ↦ past ])
    ]

-- a number in the set is an identifier
pub contained_within : (words : List ℕ) (q : ℕ) → set.contains (numbers_of words) q ≡ true → (1 ≤ q) × (q ≤ 2007)
contained_within words q out =
    let inside : (1 ≤ q → q ≤ 2007 → ⊥) → ⊥ = λ outside. both_ways _ (not_contained words q outside) out in (
      elim (cases_lt q 1) [ inl none ↦ absurd (inside (λ some fits. omega arith)) | inr some ↦ some ],
      elim (cases_lt 2007 q) [ inl past ↦ absurd (inside (λ some fits. omega arith)) | inr fits ↦ fits ],
    )

-- ---- a mark is set or cleared

-- a number whose mark stays as it was
same_beside : (words new : List ℕ) (q : ℕ) → has_mark new q ≡ has_mark words q → set.contains (numbers_of new) q ≡ set.contains (numbers_of words) q
same_beside words new q same =
    elim (cases_lt q 1) [
      | inl none ↦ not_contained new q (λ some fits. omega arith) ∙ sym (not_contained words q (λ some fits. omega arith))
      | inr some ↦ elim (cases_lt 2007 q) [
        | inl past ↦ not_contained new q (λ one fits. omega arith) ∙ sym (not_contained words q (λ one fits. omega arith))
        | inr fits ↦ contains-numbers_of new q some fits ∙ same ∙ sym (contains-numbers_of words q some fits)
      ]
    ]

-- a number whose mark is set comes in
pub numbers_of-marked : (words new : List ℕ) (k : ℕ) → 1 ≤ k → k ≤ 2007 → ((q : ℕ) → has_mark new q ≡ (eqb q k || has_mark words q)) → numbers_of new ≡ set.insert (numbers_of words) k
numbers_of-marked words new k some fits marked =
    same_numbers _ _ (λ q. elim (cases_eq q k) [
      | inl same ↦ cc (contains-numbers_of new q (omega arith) (omega arith), marked q, contains_inserted (numbers_of words) k q, eq-eqb q k same)
      | inr other ↦
          let stays : has_mark new q ≡ has_mark words q = cc (marked q, ne_eqb q k other) in
          cc (same_beside words new q stays, contains_inserted (numbers_of words) k q, ne_eqb q k other)
    ])

-- a number whose mark is cleared leaves
pub numbers_of-cleared : (words new : List ℕ) (k : ℕ) → 1 ≤ k → k ≤ 2007 → ((q : ℕ) → has_mark new q ≡ (not (eqb q k) && has_mark words q)) → numbers_of new ≡ set.remove (numbers_of words) k
numbers_of-cleared words new k some fits cleared =
    same_numbers _ _ (λ q. elim (cases_eq q k) [
      | inl same ↦ cc (contains-numbers_of new q (omega arith) (omega arith), cleared q, contains_removed (numbers_of words) k q, eq-eqb q k same)
      | inr other ↦
          let stays : has_mark new q ≡ has_mark words q = cc (cleared q, ne_eqb q k other) in
          cc (same_beside words new q stays, contains_removed (numbers_of words) k q, ne_eqb q k other)
    ])

-- no mark of an identifier is set
pub numbers_of-none : (words : List ℕ) → ((q : ℕ) → 1 ≤ q → has_mark words q ≡ false) → numbers_of words ≡ set.empty
numbers_of-none words none =
    same_numbers _ _ (λ q. elim (cases_Bool (set.contains (numbers_of words) q)) [
      | inl out ↦
          let within = contained_within words q out in
          contains-numbers_of words q within.0 within.1 ∙ none q within.0 ∙ sym (contains-empty nat_cmp q)
      | inr free ↦ free ∙ sym (contains-empty nat_cmp q)
    ])

-- ---- how many there are

pub len_inserted : (s : Numbers) (k : ℕ) → set.contains s k ≡ false → set.len (set.insert s k) ≡ set.len s + 1
len_inserted s k free = len-insert nat_cmp_total s k ∙ rw free refl

pub len_removed : (s : Numbers) (k : ℕ) → set.contains s k ≡ true → set.len (set.remove s k) ≡ set.len s - 1
len_removed s k out = len-remove nat_cmp_total s k ∙ rw out refl

-- a set that has a number is not empty
pub len_some : (s : Numbers) (k : ℕ) → set.contains s k ≡ true → 1 ≤ set.len s
len_some s k out =
    elim (cases_lt (set.len s) 1) [
      | inl none ↦
          let nothing : s ≡ set.empty = set.empty_of_len s (omega arith) in
          absurd (both_ways _ (ap (λ t. set.contains t k) nothing ∙ contains-empty nat_cmp k) out)
      | inr some ↦ some
    ]

-- ---- the pool of a set

abbrev pub pool : ℕ → Numbers → Pool
pool most out = record { most = most; out = out }

-- a pool that has the set of the marks, after a change of that set
pub changed_pool : (f : Numbers → Numbers) (most : ℕ) (numbers new : Numbers) (p : Pool) → pool most numbers ≡ p → new ≡ f numbers → pool most new ≡ pool p.most (f p.out)
changed_pool f most numbers new p is change = ap (pool most) change ∙ ap (λ q. pool q.most (f q.out)) is
