-- Units, polls and beacons, and what a network makes of them: rows worked out by hand.
use Rattle.std.proofs.Common.{◌≡◌, ℕ, true, false, [], ◌∷◌, ◌++◌, Ok, refl, List}
use Rattle.mac_frame.specs.Address.{broadcast}
use Rattle.association.specs.Request.{Request, Msdu, Null, Poll}
use Rattle.association.specs.Samples.{other_station}
use Rattle.powersave.specs.Keep.{Entry}
use Rattle.powersave.specs.declared.unit.Whom.TheVariants.{One, Group}
use Rattle.tim.specs.Tim.{tim_octets, partial_of, from_first_pair, up_to_last, virtual_bitmap, octet_at, bits_from}
use Rattle.beacon.specs.Advert.{timestamp, fixed_fields, network_elements}
use Rattle.beacon.specs.Beacon.{dtim_count}
use Rattle.ap_config.specs.declared.setting.Setting.{Setting}
use Rattle.network.specs.Network.{Network, empty_network, age_units, answer, step}
use Rattle.network.specs.Units.{unit}
use Rattle.events.specs.declared.event.Event.TheVariants.{Wire, Tick}
use Rattle.station_state.specs.declared.state.StationState.TheVariants.{Authenticated, Associated}
use Rattle.ap_config.specs.Samples.{bssid, station, network, setting}
use Rattle.network.proofs.UnitSamples.{host, ipv4, wired, sent, last, more, beacon_with, at_1, at_2, at_3}
use Rattle.mac_frame.proofs.Rows.{Computes}

-- ---- a network with stations

-- a station that is active, and another that dozes
abbrev joined : Network
joined = record empty_network { stations = (station, Associated 1 10 false) ∷ (other_station, Associated 2 10 true) ∷ [] }

-- the first of them alone, active
abbrev one_active : Network
one_active = record empty_network { stations = (station, Associated 1 10 false) ∷ [] }

-- room for one unit
abbrev narrow : Setting
narrow = record setting { network = record network { quota = 1 } }

-- ---- units

-- kept, from the host
abbrev for_other : ℕ → Entry
for_other octet = (One other_station, unit 0 other_station host (ipv4 octet))

abbrev for_group : ℕ → Entry
for_group octet = (Group, unit 0 broadcast host (ipv4 octet))

-- ---- from the wire

from_the_wire : Computes (λ (of : Setting × Network × List ℕ). step of.0 of.1 (Wire of.2)) (
    ("a unit is sent to an active station", (setting, joined, wired station host 7), record joined { sequence = 1; air = sent last station host 0x00 7 ∷ [] })
    ∷ ("a unit is kept for one that dozes", (setting, joined, wired other_station host 7), record joined { kept = for_other 7 ∷ [] })
    ∷ ("a unit for nobody here goes nowhere", (setting, joined, wired host station 7), joined)
    ∷ ("a unit for the group waits where one dozes", (setting, joined, wired broadcast host 7), record joined { kept = for_group 7 ∷ [] })
    ∷ ("a unit for the group is sent where none dozes", (setting, one_active, wired broadcast host 7), record one_active { sequence = 1; air = sent last broadcast host 0x00 7 ∷ [] })
    ∷ ("a unit over the quota is lost", (narrow, record joined { kept = for_group 1 ∷ [] }, wired other_station host 7), record joined { kept = for_group 1 ∷ []; lost = 1 })
    ∷ ("thirteen octets are unread", (setting, joined, station ++ host ++ 0x08 ∷ []), record joined { unread = 1 })
    ∷ [])
from_the_wire = refl

-- ---- from stations

abbrev ask : Setting → Network → Request → Network
ask s n r = answer s (Ok r) n

from_stations : Computes (λ (of : Setting × Network × Request). ask of.0 of.1 of.2) (
    ("unit for host goes on wire", (setting, joined, Msdu station false host (ipv4 7)), record joined { wire = wired host station 7 ∷ [] })
    ∷ ("unit for station stays off wire", (setting, joined, Msdu station false other_station (ipv4 7)), record joined { kept = (One other_station, unit 0 other_station station (ipv4 7)) ∷ [] })
    ∷ ("unit for group goes both ways", (setting, one_active, Msdu station false broadcast (ipv4 7)), record one_active { sequence = 1; air = sent last broadcast station 0x00 7 ∷ []; wire = wired broadcast station 7 ∷ [] })
    ∷ ("mode comes before delivery", (setting, one_active, Msdu station true broadcast (ipv4 7)), record one_active { stations = (station, Associated 1 10 true) ∷ []; kept = (Group, unit 0 broadcast station (ipv4 7)) ∷ []; wire = wired broadcast station 7 ∷ [] })
    ∷ [])
from_stations = refl

-- two octets have no wired form
a_unit_may_be_lost_twice : ask narrow (record joined { kept = for_other 1 ∷ [] }) (Msdu station false broadcast (0x00 ∷ 0x00 ∷ [])) ≡ record joined { kept = for_other 1 ∷ []; lost = 2 }
a_unit_may_be_lost_twice = refl

-- ---- polls and modes

-- units for the other station and the group
abbrev waiting : Network
waiting = record joined { kept = for_other 1 ∷ for_group 2 ∷ for_other 3 ∷ [] }

polls_and_modes : Computes (λ (of : Network × Request). ask setting of.0 of.1) (
    ("a poll brings the oldest with more data", (waiting, Poll other_station 2), record joined { kept = for_group 2 ∷ for_other 3 ∷ []; sequence = 1; air = sent more other_station host 0x00 1 ∷ [] })
    ∷ ("a poll brings the last without it", (record joined { kept = for_group 2 ∷ for_other 3 ∷ [] }, Poll other_station 2), record joined { kept = for_group 2 ∷ []; sequence = 1; air = sent last other_station host 0x00 3 ∷ [] })
    ∷ ("a poll by another identifier brings nothing", (waiting, Poll other_station 1), waiting)
    ∷ ("a poll of an active station brings nothing", (waiting, Poll station 1), waiting)
    ∷ ("a station that wakes gets its units", (waiting, Null other_station false), record joined { stations = (station, Associated 1 10 false) ∷ (other_station, Associated 2 10 false) ∷ []; kept = for_group 2 ∷ []; sequence = 2; air = sent last other_station host 0x00 1 ∷ sent last other_station host 0x10 3 ∷ [] })
    ∷ ("a station that dozes still gets nothing", (waiting, Null other_station true), waiting)
    ∷ ("who is authenticated only sets no mode", (record empty_network { stations = (station, Authenticated) ∷ [] }, Null station true), record empty_network { stations = (station, Authenticated) ∷ []; sequence = 1; air = ((0xa0 ∷ 0x00 ∷ 0x00 ∷ 0x00 ∷ []) ++ station ++ bssid ++ bssid ++ 0x00 ∷ 0x00 ∷ 0x07 ∷ 0x00 ∷ []) ∷ [] })
    ∷ [])
polls_and_modes = refl

-- ---- beacons

-- every second beacon is a DTIM's
abbrev every_second : Setting
every_second = record setting { network = record network { dtim = 2 } }

beacons : Computes (λ (of : Setting × Network). step of.0 of.1 Tick) (
    ("beacon tells of nobody", (setting, joined), record joined { clock = 1; sequence = 1; air = beacon_with at_1 (0x05 ∷ 0x04 ∷ 0x00 ∷ 0x01 ∷ 0x00 ∷ 0x00 ∷ []) ∷ [] })
    ∷ ("a DTIM brings the units for the group", (setting, record joined { kept = for_group 1 ∷ for_other 2 ∷ for_group 3 ∷ [] }), record joined { kept = for_other 2 ∷ []; clock = 1; sequence = 3; air = beacon_with at_1 (0x05 ∷ 0x04 ∷ 0x00 ∷ 0x01 ∷ 0x01 ∷ 0x04 ∷ []) ∷ sent more broadcast host 0x10 1 ∷ sent last broadcast host 0x20 3 ∷ [] })
    ∷ ("another beacon leaves them", (every_second, record waiting { clock = 1 }), record waiting { clock = 2; sequence = 1; air = beacon_with at_2 (0x05 ∷ 0x04 ∷ 0x01 ∷ 0x02 ∷ 0x00 ∷ 0x04 ∷ []) ∷ [] })
    ∷ [])
unfolding timestamp fixed_fields network_elements dtim_count tim_octets partial_of from_first_pair up_to_last virtual_bitmap octet_at bits_from
beacons = refl

-- ---- a network that doesn't relay

abbrev apart : Setting
apart = record setting { network = record network { relay = false } }

without_relaying : Computes (λ (of : Network × Request). ask apart of.0 of.1) (
    ("a unit for a station goes on the wire alone", (joined, Msdu station false other_station (ipv4 7)), record joined { wire = wired other_station station 7 ∷ [] })
    ∷ ("a unit for itself does too", (joined, Msdu station false station (ipv4 7)), record joined { wire = wired station station 7 ∷ [] })
    -- a station dozes, and nothing is kept
    ∷ ("a unit for the group does too", (joined, Msdu station false broadcast (ipv4 7)), record joined { wire = wired broadcast station 7 ∷ [] })
    ∷ ("without a wired form it is lost", (joined, Msdu station false other_station (0x00 ∷ 0x00 ∷ [])), record joined { lost = 1 })
    ∷ ("the mode is set all the same", (one_active, Msdu station true broadcast (ipv4 7)), record one_active { stations = (station, Associated 1 10 true) ∷ []; wire = wired broadcast station 7 ∷ [] })
    ∷ [])
without_relaying = refl

frames_of_the_wire_are_delivered_as_ever : step apart joined (Wire (wired station host 7)) ≡ record joined { sequence = 1; air = sent last station host 0x00 7 ∷ [] }
frames_of_the_wire_are_delivered_as_ever = refl

-- ---- a network in which units age

abbrev aging : Setting
aging = record setting { network = record network { aging = true } }

-- a station that dozes with a listen interval, for which a unit came at clock 0, at a later clock
abbrev dozing_at : (listen clock : ℕ) → Network
dozing_at listen clock = record empty_network { stations = (other_station, Associated 2 listen true) ∷ []; kept = for_other 7 ∷ []; clock = clock }

ages : Computes (age_units aging) (
    ("a unit stays for the listen interval", dozing_at 1 1, dozing_at 1 1)
    ∷ ("after it the unit is lost", dozing_at 1 2, record (dozing_at 1 2) { kept = []; lost = 1 })
    ∷ ("listen interval 0 is for one beacon", dozing_at 0 0, dozing_at 0 0)
    ∷ ("and no other", dozing_at 0 1, record (dozing_at 0 1) { kept = []; lost = 1 })
    ∷ ("listen interval 65535 is as long", dozing_at 65535 65535, dozing_at 65535 65535)
    ∷ ("and no longer", dozing_at 65535 65536, record (dozing_at 65535 65536) { kept = []; lost = 1 })
    ∷ ("units for the group don't age", record (dozing_at 1 1000) { kept = for_group 1 ∷ for_other 2 ∷ for_group 3 ∷ [] }, record (dozing_at 1 1000) { kept = for_group 1 ∷ for_group 3 ∷ []; lost = 1 })
    ∷ [])
ages = refl

where_units_dont_age_none_leaves : age_units setting (dozing_at 1 1000) ≡ dozing_at 1 1000
where_units_dont_age_none_leaves = refl

the_beacon_tells_of_a_unit_that_stays : step aging (dozing_at 1 1) Tick ≡ record (dozing_at 1 2) { sequence = 1; air = beacon_with at_2 (0x05 ∷ 0x04 ∷ 0x00 ∷ 0x01 ∷ 0x00 ∷ 0x04 ∷ []) ∷ [] }
unfolding timestamp fixed_fields network_elements dtim_count tim_octets partial_of from_first_pair up_to_last virtual_bitmap octet_at bits_from
the_beacon_tells_of_a_unit_that_stays = refl

and_not_of_one_that_was_just_lost : step aging (dozing_at 1 2) Tick ≡ record (dozing_at 1 3) { kept = []; lost = 1; sequence = 1; air = beacon_with at_3 (0x05 ∷ 0x04 ∷ 0x00 ∷ 0x01 ∷ 0x00 ∷ 0x00 ∷ []) ∷ [] }
unfolding timestamp fixed_fields network_elements dtim_count tim_octets partial_of from_first_pair up_to_last virtual_bitmap octet_at bits_from
and_not_of_one_that_was_just_lost = refl

-- room for one unit, which one that was too old had
room_comes_back : step (record narrow { network = record narrow.network { aging = true } }) (age_units aging (dozing_at 1 2)) (Wire (wired other_station host 8)) ≡ record (dozing_at 1 2) { kept = (One other_station, unit 2 other_station host (ipv4 8)) ∷ []; lost = 1 }
room_comes_back = refl
