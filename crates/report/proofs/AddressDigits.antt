-- The text of an address, from the digits of its octets.
use Rattle.std.proofs.Common.{◌≡◌, ℕ, ◌/◌, ◌%◌, ◌<◌, false, List, [], ◌∷◌, slice_index, refl, sym, ap, ◌∙◌, arith}
use Rattle.std.proofs.Common.{eqb, true}
use Rattle.std.proofs.lemmas.Bool.{agree_below_at, eqb-true}
use Rattle.std.specs.Fmt.{digit_glyph}
use Rattle.hex.specs.Hex.{encode_lower, encode_with, lower_digits}
use Rattle.mac_frame.specs.Address.{IsAddress, address_text}
use Rattle.std.proofs.lemmas.List.FromFn.{fill_by_all}

-- a digit is the table's
abbrev IsDigit : ℕ → Type 0
IsDigit d = slice_index lower_digits d ≡ digit_glyph false d

is_digit : (d : ℕ) → d < 16 → IsDigit d
is_digit d lt =
    eqb-true _ _ (agree_below_at (λ k. eqb (slice_index lower_digits k) (digit_glyph false k)) (λ _. true) 16 d refl lt)

-- the digits of six octets, and `:` between the pairs
abbrev pub parted : List ℕ → List ℕ
parted pairs =
    let at = slice_index pairs in
    at 0 ∷ at 1 ∷ 58 ∷ at 2 ∷ at 3 ∷ 58 ∷ at 4 ∷ at 5 ∷ 58 ∷ at 6 ∷ at 7 ∷ 58 ∷ at 8 ∷ at 9 ∷ 58 ∷ at 10 ∷ at 11 ∷ []

-- both digits of an octet
record HasDigits (octet : ℕ) : Type 0 where
  high : IsDigit (octet / 16)
  low : IsDigit (octet % 16)

has_digits : (octet : ℕ) → octet < 256 → HasDigits octet
has_digits octet h =
    record { high = is_digit (octet / 16) (omega arith); low = is_digit (octet % 16) (omega arith) }

six_parted : (a b c d e f : ℕ) → HasDigits a → HasDigits b → HasDigits c → HasDigits d → HasDigits e → HasDigits f
    → parted (encode_lower (a ∷ b ∷ c ∷ d ∷ e ∷ f ∷ [])) ≡ address_text (a ∷ b ∷ c ∷ d ∷ e ∷ f ∷ [])
unfolding encode_with
six_parted a b c d e f ha hb hc hd he hf = cc

pub address_parted : (address : List ℕ) → IsAddress address → parted (encode_lower address) ≡ address_text address
address_parted s w =
    let at = slice_index s in
    let cells = fill_by_all at s 6 0 w.six (λ k _. refl) in
    let digits = λ (k : ℕ). has_digits (at k) (w.octets k) in
    let six = six_parted (at 0) (at 1) (at 2) (at 3) (at 4) (at 5)
    (digits 0) (digits 1) (digits 2) (digits 3) (digits 4) (digits 5) in
    ap (λ (a : List ℕ). parted (encode_lower a)) cells ∙ six ∙ sym (ap address_text cells)
