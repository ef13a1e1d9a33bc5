-- Units that are kept for the stations of a network and for the group (IEEE Std 802.11-2016, 11.2.3): who waits for
-- some, and which are too old.
use Rattle.std.specs.Prelude.{ℕ, ◌≡◌, ◌≤◌, ◌+◌, ◌==◌, nat_lt, Bool, true, false, ◌&&◌, List, [], ◌∷◌, Option}
use Rattle.std.specs.List.{AllByRecursion, list_any}
use Rattle.powersave.specs.Keep.{Entry, is_for, units_for, CameInOrder}
use Rattle.powersave.specs.declared.unit.Whom.{Whom}
use Rattle.powersave.specs.declared.unit.Whom.TheVariants.{One, Group}
use Rattle.stations.specs.Stations.{Table, state_of, is_dozing, listen_with}
use Rattle.station_state.specs.declared.state.StationState.{StationState}
use Rattle.station_state.specs.declared.state.StationState.TheVariants.{Authenticated, Associated}

-- ---- where a unit goes on the air (11.2.3.2)

-- units for the group are kept, in order, until the next DTIM
abbrev pub group_is_kept : List Entry → Bool
group_is_kept kept = list_any (is_for Group) kept

-- ---- units that are too old (profile)

-- for a station in this state more beacon intervals began since a clock than its listen interval (9.4.1.6)
abbrev pub is_late : Option StationState → (at clock : ℕ) → Bool
is_late state at clock = nat_lt (at + listen_with state) clock

-- one that is kept for a station; those for the group don't age
abbrev pub is_too_old_for : ℕ → Table → Whom → (at : ℕ) → Bool
is_too_old_for clock table (One addr) at = is_late (state_of addr table) at clock
is_too_old_for clock table Group at = false

abbrev pub is_too_old : ℕ → Table → Entry → Bool
is_too_old clock table entry = is_too_old_for clock table entry.0 entry.1.at

-- ---- who has units waiting, for the beacon (11.2.3.3)

abbrev pub has_unit : List ℕ → List Entry → Bool
has_unit addr kept = list_any (is_for (One addr)) kept

-- it has this association identifier
abbrev pub has_aid : ℕ → StationState → Bool
has_aid aid Authenticated = false
has_aid aid (Associated own listen doze) = aid == own

-- a station with this association identifier has units waiting
abbrev pub is_waited_for : Table → List Entry → ℕ → Bool
is_waited_for table kept aid = list_any (λ station. has_aid aid station.1 && has_unit station.0 kept) table

-- ---- what holds of the units that every network keeps

-- a station that units are kept for dozes; those for the group stay until the next DTIM, whoever dozes
abbrev pub IsKeptFor : Table → Whom → Type 0
IsKeptFor stations (One addr) = is_dozing addr stations ≡ true
IsKeptFor stations Group = Unit {0}

abbrev pub AreKeptFor : Table → List Entry → Type 0
AreKeptFor stations [] = Unit {0}
AreKeptFor stations (entry ∷ entries) = IsKeptFor stations entry.0 × AreKeptFor stations entries

-- units of which none came after this clock (profile)
pub record CameBy (clock : ℕ) (entries : List Entry) : Type 0 where
  -- those for one stand in the order in which they came; a unit that comes back may stand before later ones for others
  pub in_order : (whom : Whom) → CameInOrder (units_for whom entries)
  pub by : AllByRecursion (λ entry. entry.1.at ≤ clock) entries
