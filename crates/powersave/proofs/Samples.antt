-- Stations and units of which the rows speak.
use Rattle.std.proofs.Common.{ℕ, List, [], ◌∷◌}
use Rattle.mac_frame.specs.Address.{broadcast}
use Rattle.mac_frame.specs.Samples.{station, host}
use Rattle.powersave.specs.declared.unit.Whom.TheVariants.{One, Group}
use Rattle.powersave.specs.declared.queues.Arrived.{Arrived}
use Rattle.powersave.specs.declared.unit.Unit.{Unit as Msdu}
use Rattle.powersave.specs.Keep.{Entry}

-- 02:aa:00:00:00:02
abbrev pub other_station : List ℕ
other_station = 0x02 ∷ 0xaa ∷ 0x00 ∷ 0x00 ∷ 0x00 ∷ 0x02 ∷ []

-- a unit from the host with a body of one octet
abbrev pub unit_to : List ℕ → ℕ → Msdu
unit_to to octet = record { to = to; source = host; body = octet ∷ []; at = 0 }

abbrev pub for_station : ℕ → Entry
for_station octet = (One station, unit_to station octet)

abbrev pub for_other : ℕ → Entry
for_other octet = (One other_station, unit_to other_station octet)

abbrev pub for_group : ℕ → Entry
for_group octet = (Group, unit_to broadcast octet)

-- what came for one station, the group, and the same station again
abbrev pub three : List Entry
three = for_station 1 ∷ for_group 2 ∷ for_station 3 ∷ []

-- what came for the station at clocks 3 and 6, and for others between
abbrev pub at_clocks : List Entry
at_clocks =
    (One station, record (unit_to station 1) { at = 3 }) ∷ (One other_station, record (unit_to other_station 2) { at = 4 })
    ∷ (Group, record (unit_to broadcast 3) { at = 5 }) ∷ (One station, record (unit_to station 4) { at = 6 }) ∷ []

-- a unit before which this many were put
abbrev pub arrived : ℕ → Msdu → Arrived
arrived number unit = record { number = number; unit = unit }
