-- The eight octets of a number are that number.
use Rattle.std.proofs.Common.{◌≡◌, ℕ, ◌+◌, ◌*◌, ◌/◌, ◌%◌, ◌^◌, ◌<◌, [], ◌∷◌, bit_or, bit_xor, refl, ap, ◌∙◌, arith}
use Rattle.std.specs.Int.{w64, rotate_left}
use Rattle.std.specs.Int.Bits.{or_zero_r, xor_zero_l, xor_shifted}
use Rattle.std.proofs.lemmas.Nat.{from_le_bytes-to_le_bytes_8}
use Rattle.std.specs.Hash.{le_bytes}
use Rattle.address_hash.specs.AddressHash.{gathered, number_of}

-- an octet before a number of seven octets or fewer
octet_before : (number octet before : ℕ) → number ≡ before → before < 2 ^ 56 → octet < 2 ^ 8 → gathered number octet ≡ before * 2 ^ 8 + octet
octet_before number octet before is small few =
    let low : (before * 2 ^ 8) % 2 ^ 64 ≡ before * 2 ^ 8 = omega arith in
    let high : before / 2 ^ 56 ≡ 0 = omega arith in
    let turned : rotate_left w64 before 8 ≡ before * 2 ^ 8 = ap (λ x. bit_or x (before / 2 ^ 56)) low ∙ ap (bit_or (before * 2 ^ 8)) high ∙ or_zero_r (before * 2 ^ 8) in
    ap (λ x. gathered x octet) is ∙ ap (λ x. bit_xor x octet) turned ∙ xor_shifted before 8 octet few

number_of_eight : (a b c d e f g h : ℕ) → a < 256 → b < 256 → c < 256 → d < 256 → e < 256 → f < 256 → g < 256 → h < 256
    → number_of (a ∷ b ∷ c ∷ d ∷ e ∷ f ∷ g ∷ h ∷ []) ≡ a + b * 256 + c * 65536 + d * 16777216 + e * 4294967296 + f * 1099511627776 + g * 281474976710656 + h * 72057594037927936
unfolding number_of
number_of_eight a b c d e f g h a' b' c' d' e' f' g' h' =
    let at_h = octet_before 0 h 0 refl (omega arith) h' in
    let at_g = octet_before _ g (0 * 2 ^ 8 + h) at_h (omega arith) g' in
    let at_f = octet_before _ f ((0 * 2 ^ 8 + h) * 2 ^ 8 + g) at_g (omega arith) f' in
    let at_e = octet_before _ e (((0 * 2 ^ 8 + h) * 2 ^ 8 + g) * 2 ^ 8 + f) at_f (omega arith) e' in
    let at_d = octet_before _ d ((((0 * 2 ^ 8 + h) * 2 ^ 8 + g) * 2 ^ 8 + f) * 2 ^ 8 + e) at_e (omega arith) d' in
    let at_c = octet_before _ c (((((0 * 2 ^ 8 + h) * 2 ^ 8 + g) * 2 ^ 8 + f) * 2 ^ 8 + e) * 2 ^ 8 + d) at_d (omega arith) c' in
    let at_b = octet_before _ b ((((((0 * 2 ^ 8 + h) * 2 ^ 8 + g) * 2 ^ 8 + f) * 2 ^ 8 + e) * 2 ^ 8 + d) * 2 ^ 8 + c) at_c (omega arith) b' in
    let at_a = octet_before _ a (((((((0 * 2 ^ 8 + h) * 2 ^ 8 + g) * 2 ^ 8 + f) * 2 ^ 8 + e) * 2 ^ 8 + d) * 2 ^ 8 + c) * 2 ^ 8 + b) at_b (omega arith) a' in
    at_a ∙ omega arith

pub number_of-le_bytes : (n : ℕ) → n < 2 ^ 64 → number_of (le_bytes 8 n) ≡ n
unfolding le_bytes
number_of-le_bytes n fits =
    number_of_eight _ _ _ _ _ _ _ _ (omega arith) (omega arith) (omega arith) (omega arith) (omega arith) (omega arith) (omega arith) (omega arith)
    ∙ from_le_bytes-to_le_bytes_8 n fits

-- one octet is that octet
pub number_of-one : (octet : ℕ) → number_of (octet ∷ []) ≡ octet
unfolding number_of
number_of-one octet = xor_zero_l octet
