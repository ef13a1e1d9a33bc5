-- Records: how what is said comes where frames stand as octets and not as digits (profile).
--
-- A record is its kind, one octet; a BSSID, six; how many octets follow, two, the low one first; and these octets.
use Rattle.std.specs.Prelude.{◌≡◌, ◌<◌, ℕ, ◌+◌, ◌-◌, ◌*◌, nat_lt, ◌==◌, ◌&&◌, List, [], ◌∷◌, ◌++◌, length, map, take, drop}
use Rattle.std.specs.Prelude.{flat_map, slice_index, Option, Some, None, IfSome, if◌then◌else◌}
use Rattle.std.specs.List.{AllByRecursion}
use Rattle.std.specs.Str.{bytes_eq}
use Rattle.events.specs.declared.line.Line.{Line}
use Rattle.events.specs.declared.line.Line.TheVariants.{Air, Wire, Tick}
use Rattle.trace.specs.TraceText.{max_octets, place_with}
use Rattle.trace.specs.declared.fault.LineFault.TheVariants.{UnknownKind, NotHexadecimal, UnknownNetwork, TooMany}
use Rattle.live_rules.specs.Asked.{Asked, has_fault, ForTables, brings}

-- ---- which octets are records

-- how many octets a record has that begins so, once those are there that say it
abbrev pub record_len : List ℕ → Option ℕ
record_len octets =
    if nat_lt (length octets) 9 then None else Some (9 + (slice_index octets 7 + 256 * slice_index octets 8))

-- exactly as many octets as a record has that begins so
abbrev pub IsRecord : List ℕ → Type 0
IsRecord octets = record_len octets ≡ Some (length octets)

-- less than a whole record: more is to come
abbrev pub IsPartialRecord : List ℕ → Type 0
IsPartialRecord octets = IfSome (record_len octets) (λ len. length octets < len)

-- how many octets it lacks: of the nine that say its length, or of that length, where it is known
abbrev pub lacking_of : List ℕ → Option ℕ → ℕ
lacking_of octets None = 9 - length octets
lacking_of octets (Some len) = len - length octets

-- how many octets a partial record lacks, as far as its octets tell
abbrev pub lacking : List ℕ → ℕ
lacking octets = lacking_of octets (record_len octets)

-- records, one after the other
abbrev pub all_octets : List (List ℕ) → List ℕ
all_octets records = flat_map (λ octets. octets) records

-- these octets are these records, and then a partial one
pub record AreRecords (octets : List ℕ) (records : List (List ℕ)) (partial : List ℕ) : Type 0 where
  pub all : octets ≡ all_octets records ++ partial
  pub each : AllByRecursion IsRecord records
  pub rest : IsPartialRecord partial

-- ---- what a record says

-- no BSSID
abbrev pub nobody : List ℕ
nobody = 0 ∷ 0 ∷ 0 ∷ 0 ∷ 0 ∷ 0 ∷ []

-- this, unless the octets are too many
abbrev pub within_limit : List ℕ → Line → Asked
within_limit octets said = if nat_lt max_octets (length octets) then has_fault TooMany else brings said

-- `A`: a string that was heard
abbrev pub air_record : (bssid octets : List ℕ) → Asked
air_record bssid octets = if bytes_eq bssid nobody then within_limit octets (Air octets) else has_fault UnknownKind

-- `W`: a frame that came over the wire to the network at a place, if there is one
abbrev pub wire_record : Option ℕ → List ℕ → Asked
wire_record None octets = has_fault UnknownNetwork
wire_record (Some place) octets = within_limit octets (Wire place octets)

-- what says no more than its kind
abbrev pub bare_record : (bssid octets : List ℕ) → Asked → Asked
bare_record bssid octets said = if bytes_eq bssid nobody && length octets == 0 then said else has_fault UnknownKind

-- What a record of this kind says to networks with these addresses. The kinds are `A`, `W`, `T`, the beginning of a
-- beacon interval, and `I`, the question for tables, in ASCII.
abbrev pub kind_asks : List (List ℕ) → ℕ → (bssid octets : List ℕ) → Asked
kind_asks bssids kind bssid octets =
    if kind == 65 then air_record bssid octets
    else if kind == 87 then wire_record (place_with bssid bssids) octets
    else if kind == 84 then bare_record bssid octets (brings Tick)
    else if kind == 73 then bare_record bssid octets ForTables
    else has_fault UnknownKind

-- what a record says to networks with these addresses
abbrev pub record_asks : List (List ℕ) → List ℕ → Asked
record_asks bssids octets = kind_asks bssids (slice_index octets 0) (take 6 (drop 1 octets)) (drop 9 octets)

-- what records say, one after the other
abbrev pub records_ask : List (List ℕ) → List (List ℕ) → List Asked
records_ask bssids records = map (record_asks bssids) records

-- what the end of the input says after a partial record: one that is cut has the fault of digits that make no octets
abbrev pub cut_record : List ℕ → List Asked
cut_record [] = []
cut_record (octet ∷ octets) = has_fault NotHexadecimal ∷ []
