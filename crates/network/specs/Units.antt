-- Units and where they go (IEEE Std 802.11-2016, 4.5.2 and 11.2.3): the frame that carries one, and how it is
-- delivered.
use Rattle.std.specs.Prelude.{ℕ, ◌==◌, Bool, true, false, not, ◌||◌, ◌&&◌, List, [], ◌∷◌, ◌++◌, Option, Some, None}
use Rattle.std.specs.Prelude.{if◌then◌else◌}
use Rattle.mac_frame.specs.Address.{is_group}
use Rattle.mac_frame.specs.Data.{data_header}
use Rattle.encapsulation.specs.Ethernet.{Ethernet}
use Rattle.encapsulation.specs.Encapsulation.{on_air}
use Rattle.powersave.specs.Keep.{Entry}
use Rattle.powersave.specs.declared.unit.Whom.TheVariants.{One, Group}
use Rattle.powersave.specs.declared.unit.Unit.{Unit as DataUnit}
use Rattle.stations.specs.Stations.{Table, state_of, is_associated, some_station_dozes}
use Rattle.station_state.specs.declared.state.StationState.{StationState}
use Rattle.station_state.specs.declared.state.StationState.TheVariants.{Authenticated, Associated}
use Rattle.network.specs.declared.reply.unit.Delivery.{Delivery}
use Rattle.network.specs.declared.reply.unit.Delivery.TheVariants.{Now, Kept, Nowhere}
use Rattle.roster.specs.KeptUnits.{group_is_kept}

-- ---- a unit and its frame

-- it holds the clock at which it came
abbrev pub unit : (at : ℕ) → (to source body : List ℕ) → DataUnit
unit at to source body = record { to = to; source = source; body = body; at = at }

-- the unit that an Ethernet frame carries
abbrev pub unit_of : (at : ℕ) → Ethernet → DataUnit
unit_of at w = unit at w.to w.source (on_air w)

-- the frame that carries a unit from the network (9.3.2.1), with More Data (9.2.4.1.8) or without
abbrev pub unit_frame : (bss : List ℕ) → Bool → DataUnit → (sequence : ℕ) → List ℕ
unit_frame bss more u sequence = data_header u.to bss u.source sequence more ++ u.body

-- More Data where units follow
abbrev pub others_follow : List DataUnit → Bool
others_follow [] = false
others_follow (u ∷ us) = true

abbrev pub group_waits : Table → List Entry → Bool
group_waits table kept = some_station_dozes table || group_is_kept kept

-- to a station in this state: at once where it is active, kept where it dozes, and nowhere where it is not associated
abbrev pub delivery_with : Option StationState → List ℕ → Delivery
delivery_with None to = Nowhere
delivery_with (Some Authenticated) to = Nowhere
delivery_with (Some (Associated aid listen true)) to = Kept (One to)
delivery_with (Some (Associated aid listen false)) to = Now

-- to the group: kept where a station dozes or others are kept for it, and else at once
abbrev pub delivery_of : List ℕ → Table → List Entry → Delivery
delivery_of to table kept =
    if is_group to then (if group_waits table kept then Kept Group else Now)
    else delivery_with (state_of to table) to

-- ---- where a station's unit goes besides (4.5.2)

-- to the wire, but for a unit to one associated station; where the network doesn't relay (profile), always to the wire
abbrev pub goes_on_wire : (relay : Bool) → List ℕ → Table → Bool
goes_on_wire relay to table = not relay || (is_group to || not (is_associated (state_of to table)))

-- ---- polls (11.2.3.6)

-- a station in this state dozes and has this association identifier
abbrev pub may_poll : ℕ → Option StationState → Bool
may_poll aid None = false
may_poll aid (Some Authenticated) = false
may_poll aid (Some (Associated own listen doze)) = doze && aid == own
