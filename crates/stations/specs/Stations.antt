-- The stations of a network and the state of each (IEEE Std 802.11-2016, 11.3.1).
use Rattle.std.specs.Prelude.{ℕ, ◌≡◌, ◌≤◌, Bool, true, false, ◌||◌, nat_lt, List, [], ◌∷◌, ◌++◌, length, Option, Some}
use Rattle.std.specs.Prelude.{None, is_some, unwrap_or, if◌then◌else◌}
use Rattle.std.specs.List.{list_any}
use Rattle.std.specs.Map.{lookup, remove_entry}
use Rattle.std.specs.Str.{bytes_eq}
use Rattle.aid_pool.specs.LeastFree.{least_free, is_among}
use Rattle.station_state.specs.declared.Standing.{Standing}
use Rattle.station_state.specs.declared.Standing.TheVariants as standings
use Rattle.station_state.specs.declared.state.StationState.{StationState}
use Rattle.station_state.specs.declared.state.StationState.TheVariants.{Authenticated, Associated}
use Rattle.stations.specs.declared.table.Change.{Change}
use Rattle.stations.specs.declared.table.Change.TheVariants.{Nothing, Authenticate, Associate, Disassociate, Forget}
use Rattle.stations.specs.declared.table.Change.TheVariants.{SetMode}

-- each known station with its state, in order of first authentication
abbrev pub Table : Type 0
Table = List (List ℕ × StationState)

-- the state of a station; one that is not known has none
abbrev pub state_of : List ℕ → Table → Option StationState
state_of addr table = lookup (bytes_eq addr) table

-- which of the states of 11.3.1 that is
abbrev pub standing_with : Option StationState → Standing
standing_with None = standings.Unknown
standing_with (Some Authenticated) = standings.Authenticated
standing_with (Some (Associated aid listen doze)) = standings.Associated

abbrev pub standing_of : List ℕ → Table → Standing
standing_of addr table = standing_with (state_of addr table)

-- ---- association identifiers (9.4.1.8)

abbrev pub identifier_of : StationState → List ℕ
identifier_of Authenticated = []
identifier_of (Associated aid listen doze) = aid ∷ []

-- those of the associated stations
abbrev pub identifiers : Table → List ℕ
identifiers [] = []
identifiers (station ∷ stations) = identifier_of station.1 ++ identifiers stations

-- numbers from 1 to 2007, of which no two are the same
abbrev pub AreIdentifiers : List ℕ → Type 0
AreIdentifiers [] = Unit {0}
AreIdentifiers (aid ∷ aids) = (1 ≤ aid) × (aid ≤ 2007) × (is_among aids aid ≡ false) × AreIdentifiers aids

-- the one of a station in this state
abbrev pub aid_with : Option StationState → Option ℕ
aid_with None = None
aid_with (Some Authenticated) = None
aid_with (Some (Associated aid listen doze)) = Some aid

-- the identifier of a station, if it is associated
abbrev pub aid_of : List ℕ → Table → Option ℕ
aid_of addr table = aid_with (state_of addr table)

abbrev pub is_associated : Option StationState → Bool
is_associated None = false
is_associated (Some Authenticated) = false
is_associated (Some (Associated aid listen doze)) = true

-- the listen interval, or 0 where it is not associated (9.4.1.6)
abbrev pub listen_of : StationState → ℕ
listen_of Authenticated = 0
listen_of (Associated aid listen doze) = listen

-- and of one that is not known 0 too
abbrev pub listen_with : Option StationState → ℕ
listen_with None = 0
listen_with (Some state) = listen_of state

abbrev pub dozes : StationState → Bool
dozes Authenticated = false
dozes (Associated aid listen doze) = doze

-- ---- power management (11.2.3.2)

-- a station that is known dozes
abbrev pub dozes_with : Option StationState → Bool
dozes_with None = false
dozes_with (Some state) = dozes state

abbrev pub is_dozing : List ℕ → Table → Bool
is_dozing addr table = dozes_with (state_of addr table)

abbrev pub some_station_dozes : Table → Bool
some_station_dozes table = list_any (λ station. dozes station.1) table

-- a state in another mode; a station that is not associated has no mode
abbrev pub with_mode : Bool → StationState → StationState
with_mode doze Authenticated = Authenticated
with_mode doze (Associated aid listen before) = Associated aid listen doze

-- ---- room

-- where at most `most` may associate, there is room for this station: it has its place, or fewer are associated
abbrev pub may_associate : ℕ → List ℕ → Table → Bool
may_associate most addr table = is_some (aid_of addr table) || nat_lt (length (identifiers table)) most

-- the identifier that an association of this station gives: the one that it has, or the least that is free
abbrev pub next_aid : List ℕ → Table → ℕ
next_aid addr table = unwrap_or (aid_of addr table) (least_free (is_among (identifiers table)))

-- ---- changes of one station

-- a known station keeps its place, and an unknown one goes last (profile)
abbrev pub set_state : List ℕ → StationState → Table → Table
set_state addr state [] = (addr, state) ∷ []
set_state addr state (station ∷ stations) =
    if bytes_eq addr station.0 then (station.0, state) ∷ stations else station ∷ set_state addr state stations

-- authentication (11.3.4.3): no longer associated (profile)
abbrev pub authenticate : List ℕ → Table → Table
authenticate addr table = set_state addr Authenticated table

-- association (11.3.5.3): active
abbrev pub associate : List ℕ → ℕ → Table → Table
associate addr listen table = set_state addr (Associated (next_aid addr table) listen false) table

-- disassociation (11.3.5.9): a station that is associated is authenticated only
abbrev pub disassociate : List ℕ → Table → Table
disassociate addr table = if is_some (aid_of addr table) then set_state addr Authenticated table else table

-- deauthentication (11.3.4.5): the others keep their order
abbrev pub forget : List ℕ → Table → Table
forget addr table = remove_entry (bytes_eq addr) table

-- the mode of a station: it dozes, or is active (11.2.3.2)
abbrev pub set_mode : List ℕ → Bool → Table → Table
set_mode addr doze [] = []
set_mode addr doze (station ∷ stations) =
    if bytes_eq addr station.0 then (station.0, with_mode doze station.1) ∷ stations
    else station ∷ set_mode addr doze stations

-- a change of one station
abbrev pub changed : Change → Table → Table
changed Nothing table = table
changed (Authenticate addr) table = authenticate addr table
changed (Associate addr listen) table = associate addr listen table
changed (Disassociate addr) table = disassociate addr table
changed (Forget addr) table = forget addr table
changed (SetMode addr doze) table = set_mode addr doze table

-- where at most `most` may associate: a station that associates is known, and there is room for it
abbrev pub IsAllowed : ℕ → Change → Table → Type 0
IsAllowed most Nothing table = Unit {0}
IsAllowed most (Authenticate addr) table = Unit {0}
IsAllowed most (Associate addr listen) table =
    (is_some (state_of addr table) ≡ true) × (may_associate most addr table ≡ true)
IsAllowed most (Disassociate addr) table = Unit {0}
IsAllowed most (Forget addr) table = Unit {0}
IsAllowed most (SetMode addr doze) table = Unit {0}

-- it sets the mode of one at most
abbrev pub IsModeAlone : Change → Type 0
IsModeAlone Nothing = Unit {0}
IsModeAlone (Authenticate addr) = ⊥
IsModeAlone (Associate addr listen) = ⊥
IsModeAlone (Disassociate addr) = ⊥
IsModeAlone (Forget addr) = ⊥
IsModeAlone (SetMode addr doze) = Unit {0}

-- ---- what contracts see of the stations that are kept

-- how many may be associated at most, and the stations
pub record StationTable : Type 0 where
  pub most : ℕ
  pub table : Table

abbrev pub with_table : StationTable → Table → StationTable
with_table s table = record s { table = table }
