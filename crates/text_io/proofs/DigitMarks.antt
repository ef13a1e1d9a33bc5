-- What it says of two vectors that no lane of either has one of the upper four bits.
use Rattle.std.proofs.Common.{◌≡◌, ℕ, zero, suc, ◌<◌, ◌||◌, Bool, true, not, eqb, ltb, List, [], ◌∷◌, length}
use Rattle.std.proofs.Common.{get_or, replicate, bit_and, bit_or, refl, sym, ◌∙◌, arith, Fits, w8}
use Rattle.std.proofs.lemmas.Bool.{OnTrue_from, agree_below_at, eq-eqb, eqb-true, ltb-true}
use Rattle.std.proofs.lemmas.Nat.{and_le_l, and_le_r, or_lt}
use Rattle.std.proofs.lemmas.Simd.{Each1-get_or, get_or-replicate, get_or-zip2, length-zip2}
use Rattle.std.specs.Bool.{OnTrue}
use lib.Bits.{or_add_and}
use lib.Lanes.{Each1, fold_l, zip2}

both_zero : (a b : ℕ) → bit_or a b ≡ 0 → (a ≡ 0) × (b ≡ 0)
both_zero a b h =
    let sum = or_add_and a b in
    (omega (arith, sum, and_le_r a b), omega (arith, sum, and_le_l a b))

-- where no lane has a bit, each is 0
all_zero : (a : ℕ) (xs : List ℕ) → fold_l bit_or a xs ≡ 0 → (a ≡ 0) × ((i : ℕ) → get_or xs i 0 ≡ 0)
all_zero a [] e = (e, λ i. refl)
all_zero a (x ∷ xs) e =
    let rest = all_zero (bit_or a x) xs e in
    let here = both_zero a x rest.0 in
    (here.0, elim [ zero ↦ here.1 | suc k ↦ rest.1 k ])

-- both of two whose `or` is small are small
both_small : (a b : ℕ) → bit_or a b < 16 → (a < 16) × (b < 16)
both_small a b h =
    let sum = or_add_and a b in
    (omega (arith, sum, and_le_r a b), omega (arith, sum, and_le_l a b))

-- what an octet without an upper bit is
abbrev is_small : ℕ → Bool
is_small n = not (eqb (bit_and n 240) 0) || ltb n 16

small_octet : (n : ℕ) → n < 256 → bit_and n 240 ≡ 0 → n < 16
small_octet n fits e =
    let test = agree_below_at is_small (λ _. true) 256 n refl fits in
    let none = eq-eqb (bit_and n 240) 0 e in
    ltb-true n 16 (rw none at test)

-- that no lane of either vector has an upper bit, as the fold tells it
abbrev pub all_clear : List ℕ → List ℕ → Bool
all_clear xs ys = eqb (fold_l bit_or 0 (zip2 bit_and (zip2 bit_or xs ys) (replicate 16 240))) 0

abbrev IsBlock : List ℕ → Type 0
IsBlock xs = (length xs ≡ 16) × Each1 (Fits w8) xs

module _ (xs ys : List ℕ) (p : IsBlock xs) (q : IsBlock ys) where
  small_lanes : all_clear xs ys ≡ true → (j : ℕ) → j < 16 → (get_or xs j 0 < 16) × (get_or ys j 0 < 16)
  small_lanes e j lt =
      let a : ℕ = get_or xs j 0 in
      let b : ℕ = get_or ys j 0 in
      let first : a < 256 = (Each1-get_or (Fits w8) xs j 0 (omega (arith, p.0)) p.1).fits in
      let second : b < 256 = (Each1-get_or (Fits w8) ys j 0 (omega (arith, q.0)) q.1).fits in
      let either : List ℕ = zip2 bit_or xs ys in
      let long : length either ≡ 16 = length-zip2 bit_or xs ys (p.0 ∙ sym q.0) ∙ p.0 in
      let at : get_or (zip2 bit_and either (replicate 16 240)) j 0 ≡ bit_and (bit_or a b) 240 =
      get_or-zip2 bit_and either (replicate 16 240) j 0 240 0 (omega arith) lt
      ∙ (λ i. bit_and (get_or-zip2 bit_or xs ys j 0 0 0 (omega (arith, p.0)) (omega (arith, q.0)) i)
      (get_or-replicate 16 j 240 240 lt i)) in
      let zero_lane = (all_zero 0 (zip2 bit_and either (replicate 16 240)) (eqb-true _ 0 e)).1 j in
      both_small a b (small_octet (bit_or a b) (or_lt 8 a b first second) (sym at ∙ zero_lane))

  pub small_first : OnTrue (all_clear xs ys) ((j : ℕ) → j < 16 → get_or xs j 0 < 16)
  small_first =
      OnTrue_from (all_clear xs ys) ((j : ℕ) → j < 16 → get_or xs j 0 < 16) (λ e j lt. (small_lanes e j lt).0)

  pub small_second : OnTrue (all_clear xs ys) ((j : ℕ) → j < 16 → get_or ys j 0 < 16)
  small_second =
      OnTrue_from (all_clear xs ys) ((j : ℕ) → j < 16 → get_or ys j 0 < 16) (λ e j lt. (small_lanes e j lt).1)

-- where no lane has a bit, the fold of them has none
fold_of_none : (xs : List ℕ) → ((i : ℕ) → i < length xs → get_or xs i 0 ≡ 0) → fold_l bit_or 0 xs ≡ 0
fold_of_none [] none = refl
fold_of_none (x ∷ xs) none =
    let first : x ≡ 0 = none 0 (omega arith) in
    rw first (fold_of_none xs (λ i lt. none (suc i) (omega arith)))

-- an octet below 16 has no upper bit
abbrev has_none : ℕ → Bool
has_none n = eqb (bit_and n 240) 0

no_upper_bit : (n : ℕ) → n < 16 → bit_and n 240 ≡ 0
no_upper_bit n lt = eqb-true (bit_and n 240) 0 (agree_below_at has_none (λ _. true) 16 n refl lt)

-- lanes below 16 are all clear
pub clear_where_small : (xs ys : List ℕ) → length xs ≡ 16 → length ys ≡ 16
    → ((j : ℕ) → j < 16 → get_or xs j 0 < 16) → ((j : ℕ) → j < 16 → get_or ys j 0 < 16) → all_clear xs ys ≡ true
clear_where_small xs ys p q first second =
    let either : List ℕ = zip2 bit_or xs ys in
    let long : length either ≡ 16 = length-zip2 bit_or xs ys (p ∙ sym q) ∙ p in
    let whole : length (zip2 bit_and either (replicate 16 240)) ≡ 16 =
    length-zip2 bit_and either (replicate 16 240) long ∙ long in
    let none : (i : ℕ) → i < length (zip2 bit_and either (replicate 16 240))
    → get_or (zip2 bit_and either (replicate 16 240)) i 0 ≡ 0 = λ i lt.
    let below : i < 16 = omega arith in
    get_or-zip2 bit_and either (replicate 16 240) i 0 240 0 (omega arith) below
    ∙ (λ k. bit_and (get_or-zip2 bit_or xs ys i 0 0 0 (omega arith) (omega arith) k)
    (get_or-replicate 16 i 240 240 below k))
    ∙ no_upper_bit (bit_or (get_or xs i 0) (get_or ys i 0))
    (or_lt 4 (get_or xs i 0) (get_or ys i 0) (first i below) (second i below)) in
    eq-eqb _ 0 (fold_of_none (zip2 bit_and either (replicate 16 240)) none)
