-- The octets of the virtual bitmap have the bits of the numbers that are shown.
use Rattle.std.proofs.Common.{◌≡◌, ℕ, zero, suc, ◌+◌, ◌*◌, ◌/◌, ◌%◌, ◌^◌, ◌<◌, ◌≤◌, Bool, true, false, List, length, get_or, refl, sym, ap, ◌∙◌, subst, ⊎_elim, arith}
use Rattle.std.proofs.Math.Nat.{pow-suc}
use Rattle.std.specs.Int.{bit_at, from_bool}
use Rattle.std.proofs.lemmas.Bool.{cases_lt}
use Rattle.std.proofs.lemmas.Nat.Bits.{bit_at_lowest, bit_at-suc}
use Rattle.std.proofs.lemmas.List.FromFn.{fill_by_all, length-map-range_with_len, get_or-map-range_with_len}
use Rattle.std.proofs.lemmas.List.{get_or_past}
use Rattle.tim.specs.Tim.{is_shown, bits_from, octet_at, virtual_bitmap}

pub from_bool-le : (b : Bool) → from_bool b ≤ 1
from_bool-le true = omega arith
from_bool-le false = omega arith

pub from_bool-true : (b : Bool) → from_bool b ≡ 1 → b ≡ true
from_bool-true true e = refl
from_bool-true false e = absurd (omega arith)

-- each of the bits is that of its number
pub bit_at-bits_from : (bit : ℕ → Bool) (count n k : ℕ) → k < count → bit_at (bits_from bit count n) k ≡ from_bool (bit (n + k))
unfolding bits_from
bit_at-bits_from bit zero n k below = absurd (omega arith)
bit_at-bits_from bit (suc count) n zero below =
    let first = from_bool-le (bit n) in
    let number : n ≡ n + 0 = omega arith in
    let lowest : (from_bool (bit n) + 2 * bits_from bit count (suc n)) % 2 ≡ from_bool (bit n) = omega arith in
    bit_at_lowest _ ∙ lowest ∙ ap (λ number. from_bool (bit number)) number
bit_at-bits_from bit (suc count) n (suc k) below =
    let first = from_bool-le (bit n) in
    let others : (from_bool (bit n) + 2 * bits_from bit count (suc n)) / 2 ≡ bits_from bit count (suc n) = omega arith in
    let number : suc n + k ≡ n + suc k = omega arith in
    bit_at-suc _ k ∙ ap (λ rest. bit_at rest k) others ∙ bit_at-bits_from bit count (suc n) k (omega arith) ∙ ap (λ number. from_bool (bit number)) number

-- and there are no others
pub bits_from-lt : (bit : ℕ → Bool) (count n : ℕ) → bits_from bit count n < 2 ^ count
unfolding bits_from
bits_from-lt bit zero n = omega arith
bits_from-lt bit (suc count) n =
    let first = from_bool-le (bit n) in
    let others = bits_from-lt bit count (suc n) in
    omega (arith, pow-suc 2 count)

-- the octet at a place has the bits of its eight numbers
pub bit_at-octet_at : (members : ℕ → Bool) (place k : ℕ) → k < 8 → bit_at (octet_at members place) k ≡ from_bool (is_shown members (8 * place + k))
unfolding octet_at
bit_at-octet_at members place k below = bit_at-bits_from (is_shown members) 8 (8 * place) k below

pub octet_at-lt : (members : ℕ → Bool) (place : ℕ) → octet_at members place < 256
unfolding octet_at
octet_at-lt members place = bits_from-lt (is_shown members) 8 (8 * place)

-- the virtual bitmap has 251 octets
pub length-virtual_bitmap : (members : ℕ → Bool) → length (virtual_bitmap members) ≡ 251
unfolding virtual_bitmap
length-virtual_bitmap members = length-map-range_with_len (octet_at members) 0 251

-- each at its place
pub get_or-virtual_bitmap : (members : ℕ → Bool) (place : ℕ) → place < 251 → get_or (virtual_bitmap members) place 0 ≡ octet_at members place
unfolding virtual_bitmap
get_or-virtual_bitmap members place below = get_or-map-range_with_len (octet_at members) 0 251 place place 0 below (omega arith)

-- and no octet is 256 or more
pub virtual_bitmap-lt : (members : ℕ → Bool) (place : ℕ) → get_or (virtual_bitmap members) place 0 < 256
virtual_bitmap-lt members place = ⊎_elim
    (λ below. subst (λ octet. octet < 256) (sym (get_or-virtual_bitmap members place below)) (octet_at-lt members place))
    (λ past. subst (λ octet. octet < 256) (sym (get_or_past (virtual_bitmap members) place 0 (omega (arith, length-virtual_bitmap members)))) (omega arith))
    (cases_lt place 251)

-- octets that are all those of a set are its virtual bitmap
pub virtual_bitmap-from : (members : ℕ → Bool) (octets : List ℕ) → length octets ≡ 251 → ((place : ℕ) → place < 251 → get_or octets place 0 ≡ octet_at members place) → octets ≡ virtual_bitmap members
unfolding virtual_bitmap
virtual_bitmap-from members octets long each = fill_by_all (octet_at members) octets 251 0 long each
