-- The digits of values and of octets, as the vectors compute them.
use Rattle.std.proofs.Common.{◌≡◌, ℕ, ◌+◌, ◌*◌, ◌/◌, ◌%◌, ◌^◌, ◌<◌, true, eqb, List, [], ◌∷◌, ◌++◌, length, get_or}
use Rattle.std.proofs.Common.{replicate, bit_and, refl, ap, ◌∙◌, arith, Fits, w8}
use Rattle.std.proofs.lemmas.Bool.{agree_below_at, eqb-true}
use Rattle.std.proofs.lemmas.List.{get_or-map, get_or_append_left, get_or-append_right}
use Rattle.std.proofs.lemmas.Nat.{and_le_r, and_mask}
use Rattle.std.proofs.lemmas.Simd.{SwzOk, SwzOk-from_below, get_or-swz_l_below, swz_l}
use Rattle.std.proofs.lemmas.Simd.{Each1-all, Each1-get_or, Each1-weaker, Each1-zip2, Each2-splat, below_from_Fits}
use Rattle.std.proofs.lemmas.Simd.{get_or-replicate, get_or-zip2}
use lib.Lanes.{Each1, pick_l, zip2}
use Rattle.hex.specs.Hex.{lower_digits}
use Rattle.text_io.specs.Pairs.{SpellsAt}

-- the digits at places that are all below 16, of the table
abbrev pub digits_l : List ℕ → List ℕ
digits_l v = swz_l w8 16 lower_digits 0 v

module _ (v : List ℕ) (long : length v ≡ 16) (small : Each1 (λ n. n < 16) v) where
  pub has_digits : SwzOk w8 16 16 0 v
  has_digits = SwzOk-from_below w8 16 1 16 0 v refl (omega arith) small

  pub digit_at : (j : ℕ) → j < 16 → get_or (digits_l v) j 0 ≡ get_or lower_digits (get_or v j 0) 0
  digit_at j lt =
      let below = Each1-get_or (λ n. n < 16) v j 0 (omega arith) small in
      get_or-swz_l_below w8 16 lower_digits 0 v j (omega arith) below ∙ ap (λ k. get_or lower_digits k 0) (omega arith)

abbrev pub halved : ℕ → ℕ → ℕ
halved a b = a / 2 ^ b

-- the lanes' high four bits
abbrev pub high_l : List ℕ → List ℕ
high_l v = zip2 halved v (replicate 16 4)

-- the lanes' low four bits
abbrev pub low_l : List ℕ → List ℕ
low_l v = zip2 bit_and v (replicate 16 15)

-- what each of them is below
pub high_l-small : (v : List ℕ) → Each1 (Fits w8) v → Each1 (λ n. n < 16) (high_l v)
high_l-small v fits =
    let small = Each1-weaker (λ a. a < 256) (λ a. a / 16 < 16) (λ a h. omega arith) v (below_from_Fits w8 v fits) in
    Each1-zip2 halved (λ n. n < 16) v (replicate 16 4) (Each2-splat (λ a b. halved a b < 16) v 16 4 small)

pub low_l-small : (v : List ℕ) → Each1 (λ n. n < 16) (low_l v)
low_l-small v =
    let small = Each1-all (λ a. bit_and a 15 < 16) (λ a. omega (arith, and_le_r a 15)) v in
    Each1-zip2 bit_and (λ n. n < 16) v (replicate 16 15) (Each2-splat (λ a b. bit_and a b < 16) v 16 15 small)

get_or-high_l : (v : List ℕ) (j : ℕ) → length v ≡ 16 → j < 16 → get_or (high_l v) j 0 ≡ get_or v j 0 / 16
get_or-high_l v j long lt =
    get_or-zip2 halved v (replicate 16 4) j 0 4 0 (omega arith) lt
    ∙ ap (halved (get_or v j 0)) (get_or-replicate 16 j 4 4 lt)

get_or-low_l : (v : List ℕ) (j : ℕ) → length v ≡ 16 → j < 16 → get_or (low_l v) j 0 ≡ get_or v j 0 % 16
get_or-low_l v j long lt =
    get_or-zip2 bit_and v (replicate 16 15) j 0 15 0 (omega arith) lt
    ∙ ap (bit_and (get_or v j 0)) (get_or-replicate 16 j 15 15 lt) ∙ and_mask (get_or v j 0) 4

-- the places of the lanes of two vectors, by turns
abbrev pub turns : List ℕ
turns =
    0 ∷ 16 ∷ 1 ∷ 17 ∷ 2 ∷ 18 ∷ 3 ∷ 19 ∷ 4 ∷ 20 ∷ 5 ∷ 21 ∷ 6 ∷ 22 ∷ 7 ∷ 23
    ∷ 8 ∷ 24 ∷ 9 ∷ 25 ∷ 10 ∷ 26 ∷ 11 ∷ 27 ∷ 12 ∷ 28 ∷ 13 ∷ 29 ∷ 14 ∷ 30 ∷ 15 ∷ 31 ∷ []

first_of_turn : (xs ys : List ℕ) (j : ℕ) → length xs ≡ 16 → j < 16
    → get_or (pick_l 0 (xs ++ ys) turns) (2 * j) 0 ≡ get_or xs j 0
first_of_turn xs ys j long lt =
    let at = agree_below_at (λ k. eqb (get_or turns (2 * k) 0) k) (λ _. true) 16 j refl lt in
    get_or-map (λ k. get_or (xs ++ ys) k 0) turns (2 * j) 0 0 (omega arith)
    ∙ ap (λ k. get_or (xs ++ ys) k 0) (eqb-true _ _ at)
    ∙ get_or_append_left xs ys 0 j (omega arith)

second_of_turn : (xs ys : List ℕ) (j : ℕ) → length xs ≡ 16 → j < 16
    → get_or (pick_l 0 (xs ++ ys) turns) (2 * j + 1) 0 ≡ get_or ys j 0
second_of_turn xs ys j long lt =
    let at = agree_below_at (λ k. eqb (get_or turns (2 * k + 1) 0) (16 + k)) (λ _. true) 16 j refl lt in
    get_or-map (λ k. get_or (xs ++ ys) k 0) turns (2 * j + 1) 0 0 (omega arith)
    ∙ ap (λ k. get_or (xs ++ ys) k 0) (eqb-true _ _ at)
    ∙ get_or-append_right xs ys 16 (16 + j) 0 long (omega arith) ∙ ap (λ k. get_or ys k 0) (omega arith)

-- the digit of each value
abbrev pub AreDigits : List ℕ → List ℕ → Type 0
AreDigits values digits = (j : ℕ) → j < 16 → get_or digits j 0 ≡ get_or lower_digits (get_or values j 0) 0

pub pairs_spell : (block high low : List ℕ) → length block ≡ 16 → length high ≡ 16 → AreDigits (high_l block) high
    → AreDigits (low_l block) low → (j : ℕ) → j < 16 → SpellsAt block (pick_l 0 (high ++ low) turns) j
pairs_spell block high low long half dh dl j lt = (
  first_of_turn high low j half lt ∙ dh j lt ∙ ap (λ n. get_or lower_digits n 0) (get_or-high_l block j long lt),
  second_of_turn high low j half lt ∙ dl j lt ∙ ap (λ n. get_or lower_digits n 0) (get_or-low_l block j long lt),
)
