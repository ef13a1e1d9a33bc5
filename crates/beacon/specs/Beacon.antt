-- What a network announces of itself in a beacon (IEEE Std 802.11-2016, 9.3.3.3), octet by octet.
use Rattle.std.specs.Prelude.{ℕ, ◌-◌, ◌%◌, Bool, ◌==◌, ◌&&◌, List, ◌++◌}
use Rattle.mac_frame.specs.Address.{broadcast}
pub use Rattle.mac_frame.specs.Management.{beacon_subtype}
use Rattle.mac_frame.specs.Management.{management_header}
use Rattle.elements.specs.Rates.{extended_rates}
use Rattle.tim.specs.Tim.{tim_octets}
use Rattle.beacon.specs.Advert.{Announced, fixed_fields, network_elements}

-- DTIM Count (9.4.2.6): how many beacons come before the next DTIM, 0 in a DTIM. The beacon at clock 1 is one
-- (profile).
unfoldable pub dtim_count : ℕ → ℕ → ℕ
dtim_count clock period = (period - (clock - 1) % period) % period

-- Traffic Indicator (9.4.2.6): units for the group are kept, and they follow this beacon, a DTIM
abbrev pub traffic_indicator : ℕ → Bool → Bool
traffic_indicator count group = group && count == 0

-- the TIM of a beacon: the DTIM period, whether units for the group are kept, and which association identifiers are
-- those of stations for which units are kept
abbrev pub beacon_tim : ℕ → ℕ → Bool → (ℕ → Bool) → List ℕ
beacon_tim clock period group members =
    tim_octets (dtim_count clock period) period (traffic_indicator (dtim_count clock period) group) members

-- the body of a beacon (9.3.3.3), its elements in the order of their numbers there
abbrev pub beacon_body : Announced → ℕ → Bool → (ℕ → Bool) → List ℕ
beacon_body a period group members =
    fixed_fields a ++ network_elements a ++ beacon_tim a.clock period group members ++ extended_rates a.rates

-- a beacon, to all, with a sequence number
abbrev pub beacon : Announced → ℕ → ℕ → Bool → (ℕ → Bool) → List ℕ
beacon a sequence period group members =
    management_header beacon_subtype broadcast a.bss sequence ++ beacon_body a period group members
