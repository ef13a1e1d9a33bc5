-- What may be said in either face: its line and its record (profile).
use Rattle.std.specs.Prelude.{ℕ, ◌/◌, ◌%◌, ◌≤◌, List, [], ◌∷◌, ◌++◌, length, map, flat_map, codes}
use Rattle.hex.specs.Hex.{IsBytes, encode_lower}
use Rattle.mac_frame.specs.Address.{IsAddress, address_text}
use Rattle.text_io.specs.Texts.{ended}
use Rattle.trace.specs.TraceText.{max_octets}
use Rattle.live_rules.specs.Records.{nobody, all_octets}

-- a string that was heard; a frame that came over the wire to the network with an address; the beginning of a beacon
-- interval; the question for tables
pub data Input : Type 0 where
  Heard : List ℕ → Input
  Wired : (address octets : List ℕ) → Input
  Interval : Input
  Question : Input

-- these are octets, not too many, and an address
abbrev pub IsInput : Input → Type 0
IsInput (Heard octets) = IsBytes octets × (length octets ≤ max_octets)
IsInput (Wired address octets) = IsAddress address × IsBytes octets × (length octets ≤ max_octets)
IsInput Interval = Unit {0}
IsInput Question = Unit {0}

-- ---- as a line

-- a space and a word, if there is one
abbrev pub then_word : List ℕ → List ℕ
then_word [] = []
then_word (character ∷ characters) = 32 ∷ character ∷ characters

-- the line that says it
abbrev pub line_for : Input → List ℕ
line_for (Heard octets) = codes "A" ++ then_word (encode_lower octets)
line_for (Wired address octets) = codes "W " ++ address_text address ++ then_word (encode_lower octets)
line_for Interval = codes "T"
line_for Question = codes "I"

-- their text
abbrev pub text_for : List Input → List ℕ
text_for inputs = flat_map (λ input. ended (line_for input)) inputs

-- ---- as a record

-- a record of this kind, with this BSSID and these octets
abbrev pub record_with : ℕ → (bssid octets : List ℕ) → List ℕ
record_with kind bssid octets = kind ∷ bssid ++ length octets % 256 ∷ length octets / 256 ∷ octets

-- the record that says it
abbrev pub record_for : Input → List ℕ
record_for (Heard octets) = record_with 65 nobody octets
record_for (Wired address octets) = record_with 87 address octets
record_for Interval = record_with 84 nobody []
record_for Question = record_with 73 nobody []

-- their octets
abbrev pub octets_for : List Input → List ℕ
octets_for inputs = all_octets (map record_for inputs)
