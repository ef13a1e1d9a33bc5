-- Pairs of neighbouring lanes, and the octets that they make.
use Rattle.std.proofs.Common.{◌≡◌, ℕ, ◌+◌, ◌*◌, ◌%◌, ◌^◌, ◌<◌, Bool, true, false, eqb, List, [], ◌∷◌, length, get_or}
use Rattle.std.proofs.Common.{replicate, bit_or, Some, Ok, refl, sym, ap, ◌∙◌, subst, arith}
use Rattle.std.proofs.lemmas.Bool.{agree_below_at, eqb-true}
use Rattle.std.proofs.lemmas.List.{get_or-map}
use Rattle.std.proofs.lemmas.Nat.{or_shifted}
use Rattle.std.proofs.lemmas.Simd.{get_or-replicate, get_or-zip2, length-zip2}
use Rattle.std.specs.Bool.{OnTrue}
use lib.Lanes.{pick_l, zip2}
use Rattle.hex.specs.Hex.{digit_or_error, hex_digit_value, is_hex_digit, pair_value, value_at}
use Rattle.text_io.specs.Pairs.{PairReads}

-- the places of the first of each pair, and of the second
abbrev pub evens : List ℕ
evens = 0 ∷ 2 ∷ 4 ∷ 6 ∷ 8 ∷ 10 ∷ 12 ∷ 14 ∷ 16 ∷ 18 ∷ 20 ∷ 22 ∷ 24 ∷ 26 ∷ 28 ∷ 30 ∷ []

abbrev pub odds : List ℕ
odds = 1 ∷ 3 ∷ 5 ∷ 7 ∷ 9 ∷ 11 ∷ 13 ∷ 15 ∷ 17 ∷ 19 ∷ 21 ∷ 23 ∷ 25 ∷ 27 ∷ 29 ∷ 31 ∷ []

pub get_or-evens : (xs : List ℕ) (j : ℕ) → j < 16 → get_or (pick_l 0 xs evens) j 0 ≡ get_or xs (2 * j) 0
get_or-evens xs j lt =
    let at = agree_below_at (λ k. eqb (get_or evens k 0) (2 * k)) (λ _. true) 16 j refl lt in
    get_or-map (λ k. get_or xs k 0) evens j 0 0 lt ∙ ap (λ k. get_or xs k 0) (eqb-true _ _ at)

pub get_or-odds : (xs : List ℕ) (j : ℕ) → j < 16 → get_or (pick_l 0 xs odds) j 0 ≡ get_or xs (2 * j + 1) 0
get_or-odds xs j lt =
    let at = agree_below_at (λ k. eqb (get_or odds k 0) (2 * k + 1)) (λ _. true) 16 j refl lt in
    get_or-map (λ k. get_or xs k 0) odds j 0 0 lt ∙ ap (λ k. get_or xs k 0) (eqb-true _ _ at)

abbrev pub shifted : ℕ → ℕ → ℕ
shifted a b = a * 2 ^ b % 2 ^ 8

-- the lanes of high, four bits up, with those of low
abbrev pub octets_l : List ℕ → List ℕ → List ℕ
octets_l high low = zip2 bit_or (zip2 shifted high (replicate 16 4)) low

pub length-octets_l : (high low : List ℕ) → length high ≡ 16 → length low ≡ 16 → length (octets_l high low) ≡ 16
length-octets_l high low p q =
    let s = length-zip2 shifted high (replicate 16 4) p in
    length-zip2 bit_or (zip2 shifted high (replicate 16 4)) low (s ∙ p ∙ sym q) ∙ s ∙ p

one_octet : (h l : ℕ) → h < 16 → l < 16 → bit_or (shifted h 4) l ≡ h * 16 + l
one_octet h l p q =
    let small : shifted h 4 ≡ h * 2 ^ 4 = omega arith in
    ap (λ s. bit_or s l) small ∙ or_shifted h 4 l q

pub get_or-octets_l : (high low : List ℕ) (j : ℕ) → length high ≡ 16 → length low ≡ 16 → j < 16
    → get_or high j 0 < 16 → get_or low j 0 < 16
    → get_or (octets_l high low) j 0 ≡ get_or high j 0 * 16 + get_or low j 0
get_or-octets_l high low j p q lt h l =
    let s = length-zip2 shifted high (replicate 16 4) p in
    get_or-zip2 bit_or (zip2 shifted high (replicate 16 4)) low j 0 0 0 (omega arith) (omega arith)
    ∙ ap (λ x. bit_or x (get_or low j 0))
    (get_or-zip2 shifted high (replicate 16 4) j 0 4 0 (omega arith) lt
    ∙ ap (shifted (get_or high j 0)) (get_or-replicate 16 j 4 4 lt))
    ∙ one_octet (get_or high j 0) (get_or low j 0) h l

-- two digits that read, as one octet
pub pair_reads : (a b h l : ℕ) → hex_digit_value a ≡ Some h → hex_digit_value b ≡ Some l → (i : ℕ)
    → pair_value a b i ≡ Ok (h * 16 + l)
pair_reads a b h l p q i =
    let ha : value_at a i ≡ Ok h = ap (digit_or_error a i) p in
    let hb : value_at b (i + 1) ≡ Ok l = ap (digit_or_error b (i + 1)) q in
    rw (ha, hb) refl

-- the value of each character at these places, where it is one
abbrev pub AreValues : List ℕ → List ℕ → List ℕ → Type 0
AreValues xs places values =
    (j : ℕ) → j < 16 → get_or (pick_l 0 xs places) j 0 < 256 → get_or values j 0 < 16
    → hex_digit_value (get_or (pick_l 0 xs places) j 0) ≡ Some (get_or values j 0)

pub pairs_read : (xs high low : List ℕ) (clear : Bool) → length high ≡ 16 → length low ≡ 16
    → AreValues xs evens high → AreValues xs odds low
    → OnTrue clear ((j : ℕ) → j < 16 → get_or high j 0 < 16) → OnTrue clear ((j : ℕ) → j < 16 → get_or low j 0 < 16)
    → OnTrue clear ((j : ℕ) → j < 16 → PairReads (get_or xs (2 * j) 0) (get_or xs (2 * j + 1) 0)
    (get_or (octets_l high low) j 0))
pairs_read xs high low false p q vh vl h l = tt
pairs_read xs high low true p q vh vl h l = λ j lt i fits_a fits_b.
    let a = get_or-evens xs j lt in
    let b = get_or-odds xs j lt in
    let first : hex_digit_value (get_or xs (2 * j) 0) ≡ Some (get_or high j 0) =
    subst (λ x. hex_digit_value x ≡ Some (get_or high j 0)) a (vh j lt (omega (arith, a)) (h j lt)) in
    let second : hex_digit_value (get_or xs (2 * j + 1) 0) ≡ Some (get_or low j 0) =
    subst (λ x. hex_digit_value x ≡ Some (get_or low j 0)) b (vl j lt (omega (arith, b)) (l j lt)) in
    pair_reads (get_or xs (2 * j) 0) (get_or xs (2 * j + 1) 0) _ _ first second i
    ∙ ap Ok (sym (get_or-octets_l high low j p q lt (h j lt) (l j lt)))

-- the value that the lane of each digit among these characters has
abbrev pub HaveValues : List ℕ → List ℕ → List ℕ → Type 0
HaveValues xs places values =
    (j : ℕ) → j < 16 → is_hex_digit (get_or (pick_l 0 xs places) j 0) ≡ true → get_or values j 0 < 16

pub all_pairs : (xs high low : List ℕ) (clear : Bool) → HaveValues xs evens high → HaveValues xs odds low
    → (((j : ℕ) → j < 16 → get_or high j 0 < 16) → ((j : ℕ) → j < 16 → get_or low j 0 < 16) → clear ≡ true)
    → ((m : ℕ) → m < 32 → is_hex_digit (get_or xs m 0) ≡ true) → clear ≡ true
all_pairs xs high low clear first second both digits =
    both (λ j lt. first j lt (rw (get_or-evens xs j lt) (digits (2 * j) (omega arith))))
    (λ j lt. second j lt (rw (get_or-odds xs j lt) (digits (2 * j + 1) (omega arith))))
