-- The values of digits, as the vectors compute them.
use Rattle.std.proofs.Common.{◌≡◌, ℕ, ◌<◌, ◌||◌, Bool, true, not, eqb, ltb, List, map, length, get_or, replicate}
use Rattle.std.proofs.Common.{bit_and, Option, Some, None, unwrap_or, refl, ap, ◌∙◌, subst, arith, lt-ltb}
use Rattle.std.proofs.lemmas.Bool.{agree_below, agree_below_at, eqb-true, ltb-true}
use Rattle.std.proofs.lemmas.List.{get_or-map}
use Rattle.std.proofs.lemmas.Simd.{zip2_of_maps, splat_is_map}
use Rattle.hex.specs.Hex.{hex_digit_value, is_hex_digit}
use Rattle.text_io.proofs.DigitLanes.{add, less, smaller, saturating_less, smaller_l, saturating_less_l, itself, smaller_is}
use Rattle.text_io.proofs.DigitLanes.{saturating_less_is}
use lib.Lanes.{zip2}

-- the sum that is the value of `0` to `9`
abbrev from_zero : ℕ → ℕ
from_zero c = less (saturating_less (add c 198) 6) 240

-- the sum that is the value of a letter
abbrev from_ten : ℕ → ℕ
from_ten c = add (smaller (less (bit_and c 223) 65) 245) 10

abbrev pub value_of : ℕ → ℕ
value_of c = smaller (from_zero c) (from_ten c)

abbrev pub values_of : List ℕ → List ℕ
values_of v =
    smaller_l (zip2 less (saturating_less_l (zip2 add v (replicate 16 198)) (replicate 16 6)) (replicate 16 240))
    (zip2 add (smaller_l (zip2 less (zip2 bit_and v (replicate 16 223)) (replicate 16 65)) (replicate 16 245))
    (replicate 16 10))

pub values_are : (v : List ℕ) → length v ≡ 16 → values_of v ≡ map value_of v
values_are v long =
    let splat = λ (y : ℕ). splat_is_map v 16 y long in
    let a = zip2_of_maps add (λ c. c) (λ _. 198) v (itself v) (splat 198) in
    let b = saturating_less_is (λ c. add c 198) (λ _. 6) v a (splat 6) in
    let zero = zip2_of_maps less (λ c. saturating_less (add c 198) 6) (λ _. 240) v b (splat 240) in
    let d = zip2_of_maps bit_and (λ c. c) (λ _. 223) v (itself v) (splat 223) in
    let e = zip2_of_maps less (λ c. bit_and c 223) (λ _. 65) v d (splat 65) in
    let f = smaller_is (λ c. less (bit_and c 223) 65) (λ _. 245) v e (splat 245) in
    let letter = zip2_of_maps add (λ c. smaller (less (bit_and c 223) 65) 245) (λ _. 10) v f (splat 10) in
    smaller_is from_zero from_ten v zero letter

-- a value below 16 is that of the digit
abbrev reads : ℕ → Bool
reads c = not (ltb (value_of c) 16) || eqb (unwrap_or (hex_digit_value c) 99) (value_of c)

all_read : agree_below reads (λ _. true) 256 ≡ true
all_read = refl

some_below : (o : Option ℕ) (v : ℕ) → v < 16 → eqb (unwrap_or o 99) v ≡ true → o ≡ Some v
some_below (Some w) v lt e = ap Some (eqb-true w v e)
some_below None v lt e = absurd (let f : ◌≡◌ {A = ℕ} 99 v = eqb-true 99 v e in omega arith)

-- what the test says of a value below 16
second : (n : ℕ) (t : Bool) → n < 16 → not (ltb n 16) || t ≡ true → t ≡ true
second n t lt h = let b = lt-ltb n 16 lt in rw b at h

-- the value that a character's lane has, where it is one
pub value_at : (v : List ℕ) (j : ℕ) → length v ≡ 16 → j < 16 → get_or v j 0 < 256 → get_or (values_of v) j 0 < 16
    → hex_digit_value (get_or v j 0) ≡ Some (get_or (values_of v) j 0)
value_at v j long lt fits small =
    let c : ℕ = get_or v j 0 in
    let is : get_or (values_of v) j 0 ≡ value_of c =
    ap (λ l. get_or l j 0) (values_are v long) ∙ get_or-map value_of v j 0 0 (omega arith) in
    let test = agree_below_at reads (λ _. true) 256 c all_read fits in
    let below : value_of c < 16 = subst (λ x. x < 16) is small in
    rw is (some_below (hex_digit_value c) (value_of c) below (second (value_of c) _ below test))

-- a digit has a value below 16
abbrev has_value : ℕ → Bool
has_value c = not (is_hex_digit c) || ltb (value_of c) 16

all_have_values : agree_below has_value (λ _. true) 256 ≡ true
all_have_values = refl

pub below_16_at : (v : List ℕ) (j : ℕ) → length v ≡ 16 → j < 16 → get_or v j 0 < 256
    → is_hex_digit (get_or v j 0) ≡ true → get_or (values_of v) j 0 < 16
below_16_at v j long lt fits digit =
    let c : ℕ = get_or v j 0 in
    let is : get_or (values_of v) j 0 ≡ value_of c =
    ap (λ l. get_or l j 0) (values_are v long) ∙ get_or-map value_of v j 0 0 (omega arith) in
    let test = agree_below_at has_value (λ _. true) 256 c all_have_values fits in
    rw is (ltb-true (value_of c) 16 (rw digit at test))
