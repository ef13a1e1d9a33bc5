-- Addresses (IEEE Std 802.11-2016, 9.2.4.3): six octets, as a list.
use Rattle.std.specs.Int.{from_le_bytes, w16, w32}
use Rattle.std.specs.Prelude.{ℕ, ◌+◌, ◌*◌, ◌/◌, ◌%◌, ◌^◌, ◌<◌, ◌≡◌, Bool, false, not, ◌==◌, ◌&&◌, ◌||◌, List, [], ◌∷◌}
use Rattle.std.specs.Prelude.{length, map, slice_index, Option, Some, None, option_map, option_and_then, if◌then◌else◌}
use Rattle.std.specs.List.{join_with_byte}
use Rattle.std.specs.Str.{bytes_eq}
use Rattle.std.specs.Fmt.{digit_glyph}
use Rattle.hex.specs.Hex.{hex_digit_value}

-- six octets
pub record IsAddress (address : List ℕ) : Type 0 where
  pub six : length address ≡ 6
  pub octets : (place : ℕ) → slice_index address place < 256

-- the broadcast address, which is the wildcard BSSID too
abbrev pub broadcast : List ℕ
broadcast = 255 ∷ 255 ∷ 255 ∷ 255 ∷ 255 ∷ 255 ∷ []

-- the first four octets as one number, the first of them the lowest, and the last two
abbrev pub first_number : List ℕ → ℕ
first_number address = from_le_bytes w32 (slice_index address 0 ∷ slice_index address 1 ∷ slice_index address 2
    ∷ slice_index address 3 ∷ [])

abbrev pub last_number : List ℕ → ℕ
last_number address = from_le_bytes w16 (slice_index address 4 ∷ slice_index address 5 ∷ [])

-- the octets as one number, the first of them the lowest
abbrev pub address_number : List ℕ → ℕ
address_number address = first_number address + last_number address * 2 ^ 32

-- bit 0 of the first octet is 1
abbrev pub is_group : List ℕ → Bool
is_group address = slice_index address 0 % 2 == 1

-- the address is the network's or the broadcast one
abbrev pub is_bss_or_broadcast : List ℕ → List ℕ → Bool
is_bss_or_broadcast bss address = bytes_eq address bss || bytes_eq address broadcast

-- the address may be that of a station of the network: neither a group address nor the network's own
abbrev pub is_station : List ℕ → List ℕ → Bool
is_station bss address = not (is_group address || bytes_eq address bss)

-- an octet as two hexadecimal digits in lower case
abbrev pub octet_text : ℕ → List ℕ
octet_text octet = digit_glyph false (octet / 16) ∷ digit_glyph false (octet % 16) ∷ []

-- the text of an address: its octets with `:` between
abbrev pub address_text : List ℕ → List ℕ
address_text address = join_with_byte 58 (map octet_text address)

-- the octet that two digits of either case spell
abbrev pub octet_of : ℕ → ℕ → Option ℕ
octet_of high low = option_and_then (λ h. option_map (λ l. 16 * h + l) (hex_digit_value low)) (hex_digit_value high)

-- the octet at a place of an address text
abbrev pub octet_at : List ℕ → ℕ → Option ℕ
octet_at text place = octet_of (slice_index text (3 * place)) (slice_index text (3 * place + 1))

-- seventeen characters, with `:` between the pairs
abbrev pub is_parted : List ℕ → Bool
is_parted text =
    length text == 17 && slice_index text 2 == 58 && slice_index text 5 == 58 && slice_index text 8 == 58
    && slice_index text 11 == 58 && slice_index text 14 == 58

infixl 10 ◌>>=◌
abbrev pub ◌>>=◌ : {A B : Type 0} → Option A → (A → Option B) → Option B
o >>= f = option_and_then f o

-- the six octets of an address text
abbrev pub octets_in : List ℕ → Option (List ℕ)
octets_in text = do
  a ← octet_at text 0
  b ← octet_at text 1
  c ← octet_at text 2
  d ← octet_at text 3
  e ← octet_at text 4
  f ← octet_at text 5
  Some (a ∷ b ∷ c ∷ d ∷ e ∷ f ∷ [])

-- the address that a text spells: six pairs of digits of either case, with `:` between
abbrev pub address_of : List ℕ → Option (List ℕ)
address_of text = if is_parted text then octets_in text else None
