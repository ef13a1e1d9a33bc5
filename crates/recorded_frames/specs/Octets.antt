-- Octets as hexadecimal text.
use Prim.Native.String.{String}
use Rattle.std.specs.Prelude.{ℕ, nat_le, ◌==◌, not, ◌≡◌, true, List, [], ◌∷◌, filter, codes, Result, Ok, Err}
use Rattle.std.specs.List.{list_all}
use Rattle.hex.specs.Hex.{decode_of}
use Rattle.hex.specs.declared.error.FromHexError.{FromHexError}

-- the octets, or a number that is none
abbrev pub decoded : Result (List ℕ) FromHexError → List ℕ
decoded (Ok octets) = octets
decoded (Err fault) = 256 ∷ []

-- The octets of pairs of hexadecimal digits, with spaces between the fields. A text with anything else has a number that
-- is no octet, which `AreOctets` refuses.
abbrev pub hex : String → List ℕ
hex text = decoded (decode_of (filter (λ code. not (code == 32)) (codes text)))

-- each number is an octet
abbrev pub AreOctets : List ℕ → Type 0
AreOctets octets = list_all (λ octet. nat_le octet 255) octets ≡ true
