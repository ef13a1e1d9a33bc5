-- An address comes back from its text.
use Rattle.std.proofs.Common.{◌≡◌, ℕ, ◌+◌, ◌*◌, ◌/◌, ◌%◌, ◌<◌, false, List, [], ◌∷◌, slice_index, Some, refl, sym, ap}
use Rattle.std.proofs.Common.{◌∙◌, arith}
use Rattle.std.proofs.lemmas.Bool.Decides.{nat_tests}
use Rattle.std.specs.Fmt.{digit_glyph}
use Rattle.hex.specs.Hex.{hex_digit_value}
use Rattle.mac_frame.specs.Address.{IsAddress, octet_of, address_text, address_of}
use Rattle.mac_frame.proofs.Cells.{is_its_cells}

-- a digit
digit_value : (d : ℕ) → d < 16 → hex_digit_value (digit_glyph false d) ≡ Some d
digit_value d h = grind (arith, nat_tests)

-- the two digits of an octet
octet_value : (o : ℕ) → o < 256 → octet_of (digit_glyph false (o / 16)) (digit_glyph false (o % 16)) ≡ Some o
octet_value o h =
    let high : o / 16 < 16 = omega arith in
    let low : o % 16 < 16 = omega arith in
    let whole : 16 * (o / 16) + o % 16 ≡ o = omega arith in
    rw (digit_value (o / 16) high, digit_value (o % 16) low) (ap Some whole)

-- six octets
six_come_back : (a b c d e f : ℕ) → a < 256 → b < 256 → c < 256 → d < 256 → e < 256 → f < 256
    → address_of (address_text (a ∷ b ∷ c ∷ d ∷ e ∷ f ∷ [])) ≡ Some (a ∷ b ∷ c ∷ d ∷ e ∷ f ∷ [])
six_come_back a b c d e f ha hb hc hd he hf =
    rw (octet_value a ha, octet_value b hb, octet_value c hc, octet_value d hd, octet_value e he, octet_value f hf) refl

pub comes_back : (address : List ℕ) → IsAddress address → address_of (address_text address) ≡ Some address
comes_back s w =
    let at = slice_index s in
    let cells = is_its_cells s 6 w.six in
    let of_cells = six_come_back (at 0) (at 1) (at 2) (at 3) (at 4) (at 5)
    (w.octets 0) (w.octets 1) (w.octets 2) (w.octets 3) (w.octets 4) (w.octets 5) in
    ap (λ (a : List ℕ). address_of (address_text a)) cells ∙ of_cells ∙ sym (ap Some cells)
