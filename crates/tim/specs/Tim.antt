-- The TIM element (IEEE Std 802.11-2016, 9.4.2.6): how a string of octets shows a set of association identifiers.
--
-- A set of numbers is handed in as a test. Only what it answers at an association identifier counts.
use Rattle.std.specs.Prelude.{ℕ, zero, suc, ◌+◌, ◌-◌, ◌*◌, ◌/◌, ◌%◌, ◌<◌, ◌≤◌, ◌≡◌, ◌↔◌, Bool, false, IsTrue, nat_le}
use Rattle.std.specs.Prelude.{◌&&◌, List, [], ◌∷◌, length, map, slice_index}
use Rattle.std.specs.Int.{bit_at, from_bool}
use Rattle.std.specs.List.{range_with_len}

-- the element ID of TIM (9.4.2.1)
abbrev pub tim_id : ℕ
tim_id = 5

-- the greatest association identifier (9.4.1.8)
abbrev pub max_aid : ℕ
max_aid = 2007

-- an association identifier
abbrev pub IsAid : ℕ → Type 0
IsAid n = (1 ≤ n) × (n ≤ max_aid)

-- two tests answer alike at each association identifier
abbrev pub SameNumbers : (ℕ → Bool) → (ℕ → Bool) → Type 0
SameNumbers members others = (n : ℕ) → IsAid n → members n ≡ others n

-- ---- as a relation: which numbers the octets have

-- the place in the virtual bitmap of the first octet that is sent: an even one, half of which stands in bits 1 to 7 of
-- Bitmap Control
abbrev pub first_place : ℕ → ℕ
first_place control = 2 * (control / 2)

-- of octets that stand at the places from the first on, the one at place n / 8 is there and has bit n mod 8
pub record HasNumber (first : ℕ) (octets : List ℕ) (n : ℕ) : Type 0 where
  pub from : first ≤ n / 8
  pub to : n / 8 < first + length octets
  pub bit : bit_at (slice_index octets (n / 8 - first)) (n % 8) ≡ 1

-- The string is a TIM with this DTIM Count and DTIM Period, with this Traffic Indicator (bit 0 of Bitmap Control, for
-- the group), and with the numbers of the set. Which octets are sent of those that the standard allows is profile:
-- `ends`, `begins` and `nothing`.
pub record ShowsTim (t : List ℕ) (count period : ℕ) (group : Bool) (members : ℕ → Bool) : Type 0 where
  pub control : ℕ
  pub octets : List ℕ
  -- Element ID, Length, DTIM Count, DTIM Period, Bitmap Control, Partial Virtual Bitmap
  pub string : t ≡ tim_id ∷ (length octets + 3) ∷ count ∷ period ∷ control ∷ octets
  pub in_octets : (place : ℕ) → slice_index t place < 256
  pub count_below_period : count < period
  pub traffic_indicator : bit_at control 0 ≡ from_bool group
  -- the group's units follow the beacon at count 0 alone
  pub group_at_0 : IsTrue group → count ≡ 0
  pub some : 1 ≤ length octets
  -- no octet stands past place 250, which has the numbers 2000 to 2007
  pub within : first_place control + length octets ≤ 251
  pub numbers : (n : ℕ) → IsAid n → IsTrue (members n) ↔ HasNumber (first_place control) octets n
  -- bit 0 of the virtual bitmap is 0 (profile)
  pub no_number_0 : ¬ HasNumber (first_place control) octets 0
  -- where the set has a number, the last octet isn't 0
  pub ends : (n : ℕ) → IsAid n → IsTrue (members n) → 0 < slice_index octets (length octets - 1)
  -- and the first two, where there are two, aren't both 0
  pub begins : (n : ℕ) → IsAid n → IsTrue (members n) → 2 ≤ length octets
      → 0 < slice_index octets 0 + slice_index octets 1
  -- where it has none, there is one octet, which is 0 and stands at place 0
  pub nothing : ((n : ℕ) → IsAid n → members n ≡ false) → (first_place control ≡ 0) × (octets ≡ 0 ∷ [])

-- ---- as a function: the octets of the virtual bitmap, and what is sent of them

-- whether bit n of the virtual bitmap is 1
abbrev pub is_shown : (ℕ → Bool) → ℕ → Bool
is_shown members n = nat_le 1 n && nat_le n max_aid && members n

-- a count of bits from a number on, the first of them the lowest
unfoldable pub bits_from : (ℕ → Bool) → ℕ → ℕ → ℕ
bits_from bit zero n = 0
bits_from bit (suc count) n = from_bool (bit n) + 2 * bits_from bit count (suc n)

-- the octet at a place of the virtual bitmap
unfoldable pub octet_at : (ℕ → Bool) → ℕ → ℕ
octet_at members place = bits_from (is_shown members) 8 (8 * place)

-- the octets of the virtual bitmap
unfoldable pub virtual_bitmap : (ℕ → Bool) → List ℕ
virtual_bitmap members = map (octet_at members) (range_with_len 0 251)

-- an octet and those behind it; a 0 with nothing behind it is left out
abbrev pub put : ℕ → List ℕ → List ℕ
put zero [] = []
put octet octets = octet ∷ octets

-- octets up to the last that isn't 0
unfoldable pub up_to_last : List ℕ → List ℕ
up_to_last [] = []
up_to_last (octet ∷ octets) = put octet (up_to_last octets)

-- how many pairs of octets are passed, and the octets behind them: as many as are both 0
unfoldable pub from_first_pair : ℕ → List ℕ → ℕ × List ℕ
from_first_pair passed (zero ∷ zero ∷ octets) = from_first_pair (suc passed) octets
from_first_pair passed octets = (passed, octets)

-- at least one octet
abbrev pub or_zero : List ℕ → List ℕ
or_zero [] = 0 ∷ []
or_zero (octet ∷ octets) = octet ∷ octets

-- what is sent of the octets of a virtual bitmap: the Bitmap Offset, and the Partial Virtual Bitmap
unfoldable pub partial_of : List ℕ → ℕ × List ℕ
partial_of bitmap =
    let p = from_first_pair 0 (up_to_last bitmap)
    in (p.0, or_zero p.1)

-- a TIM of these fields
abbrev pub element_of : ℕ → ℕ → Bool → ℕ × List ℕ → List ℕ
element_of count period group p = tim_id ∷ (length p.1 + 3) ∷ count ∷ period ∷ (2 * p.0 + from_bool group) ∷ p.1

-- the TIM that shows a set
unfoldable pub tim_octets : ℕ → ℕ → Bool → (ℕ → Bool) → List ℕ
tim_octets count period group members = element_of count period group (partial_of (virtual_bitmap members))
