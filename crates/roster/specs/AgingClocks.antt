-- Up to which clock no unit for a station is too old (profile), told for each association identifier (IEEE Std
-- 802.11-2016, 9.4.1.8), so that a beacon looks up those stations alone that may have one.
use Rattle.std.specs.Prelude.{ℕ, ◌+◌, ◌<◌, ◌≤◌, ◌≡◌, ◌≢◌, nat_lt, Bool, true, false, List, [], ◌∷◌, ◌++◌, length, set}
use Rattle.std.specs.Prelude.{Option, Some, None, if◌then◌else◌, slice_get}
use Rattle.std.specs.List.{AllByRecursion}
use Rattle.std.specs.Option.{IsSomeAnd}
use Rattle.aid_pool.specs.LeastFree.{is_among}
use Rattle.powersave.specs.Keep.{Entry, is_same}
use Rattle.powersave.specs.declared.unit.Oldest.{Oldest}
use Rattle.powersave.specs.declared.unit.Whom.{Whom}
use Rattle.powersave.specs.declared.unit.Whom.TheVariants.{One, Group}
use Rattle.stations.specs.Sound.{AreSound}
use Rattle.stations.specs.Stations.{Table, state_of, aid_of, listen_with}
use Rattle.roster.specs.declared.aging_clocks.AgingClock.{AgingClock}

-- a clock of this station: no later than this one, with a listen interval no longer than the station's (9.4.1.6)
abbrev pub IsClockOf : Table → (addr : List ℕ) → (at : ℕ) → AgingClock → Type 0
IsClockOf table addr at c = (c.addr ≡ addr) × (c.at ≤ at) × (c.listen ≤ listen_with (state_of addr table))

-- a station has a clock that is no later than a unit for it came; it stands at the station's association identifier,
-- and that is listed. Units for the group need none, since they don't age
abbrev pub HasClock : List AgingClock → (aids : List ℕ) → Table → Whom → (at : ℕ) → Type 0
HasClock clocks aids table (One addr) at = IsSomeAnd (aid_of addr table) (λ aid.
    (is_among aids aid ≡ true) × IsSomeAnd (slice_get clocks aid) (IsClockOf table addr at))
HasClock clocks aids table Group at = Unit {0}

-- so it is for all units
abbrev pub HaveClocks : List AgingClock → (aids : List ℕ) → Table → List Entry → Type 0
HaveClocks clocks aids table entries = AllByRecursion (λ entry. HasClock clocks aids table entry.0 entry.1.at) entries

-- one that isn't due up to this clock
abbrev pub IsNoSooner : (soonest : ℕ) → AgingClock → Type 0
IsNoSooner soonest c = soonest ≤ c.at + c.listen

-- each identifier that is listed has a clock, and none of these is due up to this one
abbrev pub AreNoSooner : (soonest : ℕ) → List AgingClock → (aids : List ℕ) → Type 0
AreNoSooner soonest clocks aids =
    (n : ℕ) → is_among aids n ≡ true → IsSomeAnd (slice_get clocks n) (IsNoSooner soonest)

-- ---- how it changes

-- the clocks, one for each identifier, and the identifiers that are listed
pub record Listing : Type 0 where
  pub clocks : List AgingClock
  pub aids : List ℕ

abbrev pub listing : List AgingClock → (aids : List ℕ) → Listing
listing clocks aids = record { clocks = clocks; aids = aids }

-- the clock of a listed identifier is set, which may be listed for it; the others stay
abbrev pub IsEntered : (aid : ℕ) → AgingClock → (old new : Listing) → Type 0
IsEntered aid c old new =
    (aid < length old.clocks) × (new.clocks ≡ set old.clocks aid c) × (is_among new.aids aid ≡ true)
    × ((n : ℕ) → is_among old.aids n ≡ true → is_among new.aids n ≡ true)

-- the clock of an identifier is no later than this one; the others stay, and so does the station
abbrev pub IsNoted : (aid at : ℕ) → (old new : List AgingClock) → Type 0
IsNoted aid at old new = IsSomeAnd (slice_get old aid) (λ c.
    (early : ℕ) × (early ≤ at) × (early ≤ c.at) × (new ≡ set old aid (record c { at = early })))

-- the clock of an identifier, if it has one, isn't due up to this one; the others stay
abbrev pub IsSetAt : (aid until : ℕ) → (old new : List AgingClock) → Type 0
IsSetAt aid until old new =
    ((n : ℕ) → n ≢ aid → slice_get new n ≡ slice_get old n)
    × ((c : AgingClock) → slice_get old aid ≡ Some c → IsSomeAnd (slice_get new aid) (IsNoSooner until))

-- each clock stands where it stood
abbrev pub StayAt : (old new : List AgingClock) → Type 0
StayAt old new = (n : ℕ) (c : AgingClock) → slice_get old n ≡ Some c → slice_get new n ≡ Some c

-- One that is told as the first for whom units are kept has its clock, and the others keep theirs.
abbrev pub IsListed : Table → Oldest → (old new : Listing) → Type 0
IsListed table one old new = (most : ℕ) → AreSound most table
    → ((whom : Whom) (at : ℕ) → is_same one.whom whom ≡ false → HasClock old.clocks old.aids table whom at
    → HasClock new.clocks new.aids table whom at)
    × ((at : ℕ) → one.at ≤ at → HasClock new.clocks new.aids table one.whom at)

-- ---- which may be too old

-- a unit that came with it may be too old at this clock
abbrev pub is_due : ℕ → AgingClock → Bool
is_due clock c = nat_lt (c.at + c.listen) clock

-- its station, whenever the units for it came
abbrev pub due_with : ℕ → Option AgingClock → List Oldest
due_with clock None = []
due_with clock (Some c) = if is_due clock c then record { whom = One c.addr; at = 0 } ∷ [] else []

-- the stations of those that are listed for which a unit may be too old at this clock
abbrev pub due_at : ℕ → List AgingClock → (aids : List ℕ) → List Oldest
due_at clock clocks [] = []
due_at clock clocks (aid ∷ aids) = due_with clock (slice_get clocks aid) ++ due_at clock clocks aids
