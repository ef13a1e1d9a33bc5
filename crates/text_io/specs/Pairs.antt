-- Octets and their pairs of digits, place by place.
use Rattle.std.specs.Prelude.{◌≡◌, ℕ, ◌+◌, ◌*◌, ◌/◌, ◌%◌, ◌<◌, true, List, length, slice_index, Ok}
use Rattle.hex.specs.Hex.{is_hex_digit, lower_digits, pair_value}

-- all characters of a text are digits, of either case
abbrev pub AreDigits : List ℕ → Type 0
AreDigits text = (m : ℕ) → m < length text → is_hex_digit (slice_index text m) ≡ true

-- the characters high and low, octets both, are the digits of this octet
abbrev pub PairReads : ℕ → ℕ → ℕ → Type 0
PairReads high low octet = (i : ℕ) → high < 256 → low < 256 → pair_value high low i ≡ Ok octet

-- the octet at k is what the characters at its place of the text spell
abbrev pub ReadsAt : List ℕ → List ℕ → ℕ → Type 0
ReadsAt text octets k = PairReads (slice_index text (2 * k)) (slice_index text (2 * k + 1)) (slice_index octets k)

-- the octet's digits are the characters high and low
abbrev pub PairSpells : ℕ → ℕ → ℕ → Type 0
PairSpells octet high low =
    (high ≡ slice_index lower_digits (octet / 16)) × (low ≡ slice_index lower_digits (octet % 16))

-- the characters at the place of the octet at k are its digits
abbrev pub SpellsAt : List ℕ → List ℕ → ℕ → Type 0
SpellsAt octets text k = PairSpells (slice_index octets k) (slice_index text (2 * k)) (slice_index text (2 * k + 1))
