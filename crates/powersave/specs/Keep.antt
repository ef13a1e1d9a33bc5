-- The units that a network keeps for stations that doze (IEEE Std 802.11-2016, 11.2.3): one list, of which a part is
-- for each.
use Rattle.std.specs.Prelude.{ℕ, ◌≡◌, ◌≤◌, nat_lt, Bool, true, false, not, ◌&&◌, List, [], ◌∷◌, ◌++◌}
use Rattle.std.specs.Prelude.{map, filter, Option, Some, None, if◌then◌else◌}
use Rattle.std.specs.List.{AllByRecursion}
use Rattle.std.specs.Str.{bytes_eq}
use Rattle.mac_frame.specs.Data.{data_header}
use Rattle.powersave.specs.declared.unit.Whom.{Whom}
use Rattle.powersave.specs.declared.unit.Whom.TheVariants.{One, Group}
use Rattle.powersave.specs.declared.unit.Unit.{Unit as Msdu}
use Rattle.powersave.specs.declared.unit.Oldest.{Oldest}

-- a unit, and for whom it is kept
abbrev pub Entry : Type 0
Entry = Whom × Msdu

-- the quota (profile), the units in order of arrival, for whom room is reserved, if for any, how many were put, and how
-- many were put in front of all others
pub record Kept : Type 0 where
  pub quota : ℕ
  pub entries : List Entry
  pub reserved : Option Whom
  pub puts : ℕ
  pub in_front : ℕ

-- ---- for whom

-- the same station, or the group
abbrev pub is_same : Whom → Whom → Bool
is_same (One a) (One b) = bytes_eq a b
is_same (One a) Group = false
is_same Group (One b) = false
is_same Group Group = true

abbrev pub is_for : Whom → Entry → Bool
is_for whom entry = is_same entry.0 whom

-- ---- the part of the list for one, in order of arrival, and the rest

abbrev pub units_for : Whom → List Entry → List Msdu
units_for whom entries = map (λ entry. entry.1) (filter (is_for whom) entries)

abbrev pub without_all : Whom → List Entry → List Entry
without_all whom entries = filter (λ entry. not (is_for whom entry)) entries

-- without the first that passes a test
abbrev pub without_first : {X : Type 0} → (X → Bool) → List X → List X
without_first test [] = []
without_first test (x ∷ xs) = if test x then xs else x ∷ without_first test xs

abbrev pub without_oldest : Whom → List Entry → List Entry
without_oldest whom entries = without_first (is_for whom) entries

-- the reservation, unless it is for this one
abbrev pub room_beside : Whom → Option Whom → Option Whom
room_beside whom None = None
room_beside whom (Some other) = if is_same other whom then None else Some other

-- ---- units that came before a clock

abbrev pub is_older : Whom → ℕ → Entry → Bool
is_older whom limit entry = is_for whom entry && nat_lt entry.1.at limit

abbrev pub without_older : Whom → ℕ → List Entry → List Entry
without_older whom limit entries = filter (λ entry. not (is_older whom limit entry)) entries

-- units that came one after the other, so that their clocks don't fall
abbrev pub CameInOrder : List Msdu → Type 0
CameInOrder [] = Unit {0}
CameInOrder (u ∷ us) = AllByRecursion (λ later. u.at ≤ later.at) us × CameInOrder us

-- the first of them came before a clock
abbrev pub first_is_older : ℕ → List Msdu → Bool
first_is_older limit [] = false
first_is_older limit (u ∷ us) = nat_lt u.at limit

-- ---- those for whom units are kept

-- the clock at which the oldest unit for one came, as such a list tells it
abbrev pub oldest_at : Whom → List Oldest → Option ℕ
oldest_at whom [] = None
oldest_at whom (o ∷ os) = if is_same o.whom whom then Some o.at else oldest_at whom os

-- the clock at which the first of these units came, if there is one
abbrev pub first_clock : List Msdu → Option ℕ
first_clock [] = None
first_clock (u ∷ us) = Some u.at

-- all for whom units are kept, with the clock of the oldest of them
abbrev pub AreOldest : List Oldest → List Entry → Type 0
AreOldest oldest entries = (whom : Whom) → oldest_at whom oldest ≡ first_clock (units_for whom entries)

-- no two of such a list are for one
abbrev pub AreToldOnce : List Oldest → Type 0
AreToldOnce [] = Unit {0}
AreToldOnce (o ∷ os) = (oldest_at o.whom os ≡ None) × AreToldOnce os

-- ---- the first unit for one as a Data frame (9.3.2.1)

-- others follow
abbrev pub others_follow : List Msdu → Bool
others_follow [] = false
others_follow (u ∷ us) = true

-- it, from a network with a sequence number, with More Data (9.2.4.1.8) where others follow, and whether they do
abbrev pub first_frame : (bss : List ℕ) → (sequence : ℕ) → List Msdu → Option (List ℕ × Bool)
first_frame bss sequence [] = None
first_frame bss sequence (u ∷ us) =
    Some (data_header u.to bss u.source sequence (others_follow us) ++ u.body, others_follow us)
