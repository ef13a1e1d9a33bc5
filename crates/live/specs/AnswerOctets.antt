-- What is answered, as records (profile).
use Rattle.std.specs.Prelude.{◌≡◌, refl, ℕ, ◌/◌, ◌%◌, nat_lt, List, [], ◌∷◌, ◌++◌, length, codes, decimal, flat_map}
use Rattle.std.specs.Prelude.{if◌then◌else◌}
use Rattle.mac_frame.specs.Address.{address_text}
use Rattle.network.specs.NetworkView.{NetworkState}
use Rattle.text_io.specs.Texts.{ended}
use Rattle.network_report.specs.NetworkText.{table_in}
use Rattle.live_rules.specs.AnswerText.{refusal_word}
use Rattle.live_rules.specs.Moments.{Reply, Sends, Refuses}
use Rattle.live_rules.specs.Records.{nobody}

-- what stands before the octets of a record: its kind, a BSSID, and how many they are, the low octet first
abbrev pub record_header : ℕ → List ℕ → ℕ → List ℕ
record_header kind bssid count = kind ∷ bssid ++ count % 256 ∷ count / 256 ∷ []

-- A record of these octets. More than 65,535, whose number has no room before them, are left out whole.
unfoldable pub record_of : ℕ → List ℕ → List ℕ → List ℕ
record_of kind bssid octets =
    if nat_lt 65535 (length octets) then [] else record_header kind bssid (length octets) ++ octets

-- `O`: how many networks are open, at most 16
abbrev pub count_record : ℕ → List ℕ
count_record count = 79 ∷ 0 ∷ 0 ∷ 0 ∷ 0 ∷ 0 ∷ count % 256 ∷ 0 ∷ 0 ∷ []

-- `N`: a line for people, with its LF; one that is empty is none
unfoldable pub told : List ℕ → List ℕ
told [] = []
told (octet ∷ octets) = record_of 78 nobody (octet ∷ octets)

-- there is no record of no line
pub told-nothing : told [] ≡ []
unfolding told
told-nothing = refl

-- ---- faults

-- a fault of the record of this number
abbrev pub record_fault : List ℕ → ℕ → List ℕ
record_fault fault number = codes "fault " ++ fault ++ codes " record " ++ decimal number

-- ---- what one network replies

-- `A`, its frames on the air, and then `W`, those on the wire; or that it refuses the record of this number
abbrev pub reply_octets : ℕ → List ℕ → Reply → List ℕ
reply_octets number bssid (Sends air wire) = flat_map (record_of 65 bssid) air ++ flat_map (record_of 87 bssid) wire
reply_octets number bssid (Refuses why) =
    told (ended (record_fault (refusal_word why) number ++ codes " network " ++ address_text bssid))

-- ---- tables

-- each line that the report has of a network, but for its frames
abbrev pub table_octets : NetworkState → List ℕ
table_octets n = table_in told n

-- these records of each network, in order of place
abbrev pub tables_octets : List NetworkState → List ℕ
tables_octets networks = flat_map table_octets networks
