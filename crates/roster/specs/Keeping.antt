-- What becomes of the units that are kept: some leave, and then one may come (profile).
use Rattle.std.specs.Prelude.{ℕ, ◌<◌, ◌≡◌, Bool, false, List, ◌++◌, length, Option, Some, None, option_map}
use Rattle.std.specs.Prelude.{option_to_list}
use Rattle.powersave.specs.Keep.{Entry, is_same, room_beside, without_all}
use Rattle.powersave.specs.declared.unit.Whom.{Whom}
use Rattle.powersave.specs.declared.unit.Whom.TheVariants.{One, Group}
use Rattle.stations.specs.Stations.{Table, aid_of, aid_with, IsModeAlone}
use Rattle.roster.specs.declared.keeping.Arriving.{Arriving}
use Rattle.roster.specs.declared.keeping.Leaving.{Leaving}
use Rattle.roster.specs.declared.keeping.Leaving.TheVariants as leavings
use Rattle.roster.specs.declared.keeping.Keeping.{Keeping}
use Rattle.stations.specs.declared.table.Change.{Change}
use Rattle.station_state.specs.declared.state.StationState.{StationState}

-- ---- the units that are kept

-- those that leave are gone
abbrev pub without : Leaving → List Entry → List Entry
without leavings.Nothing kept = kept
without (leavings.All whom) kept = without_all whom kept

-- one that comes, with whom it is kept for
abbrev pub entry_of : Arriving → Entry
entry_of a = (a.whom, a.unit)

-- and one comes last
abbrev pub kept_after : Keeping → List Entry → List Entry
kept_after k kept = without k.leaving kept ++ option_to_list (option_map entry_of k.arriving)

-- units for one leave
abbrev pub is_leaving : Leaving → Whom → Bool
is_leaving leavings.Nothing whom = false
is_leaving (leavings.All other) whom = is_same whom other

-- the association identifier of whom a unit is kept for, a station in this state; the group has none
abbrev pub aid_at : Whom → Option StationState → Option ℕ
aid_at (One addr) state = aid_with state
aid_at Group state = None

-- and the one that a station has, if it is associated
abbrev pub aid_for : Whom → Table → Option ℕ
aid_for (One addr) table = aid_of addr table
aid_for Group table = None

-- one that comes is within the quota once those that leave are gone, which were for others; it comes with the
-- identifier of its station, and the mode of one station is set at most
abbrev pub IsWithin : ℕ → Change → Leaving → Table → List Entry → Option Arriving → Type 0
IsWithin quota change leaving table kept None = Unit {0}
IsWithin quota change leaving table kept (Some a) =
    (length (without leaving kept) < quota) × (is_leaving leaving a.whom ≡ false)
    × IsModeAlone change × (a.aid ≡ aid_for a.whom table)

-- the room that was made stays but for those whose units leave
abbrev pub room_after : Leaving → Option Whom → Option Whom
room_after leavings.Nothing room = room
room_after (leavings.All whom) room = room_beside whom room
