-- Beacons whose bits are the same.
use Rattle.std.proofs.Common.{◌≡◌, ℕ, Bool, List, ◌++◌, ap}
use Rattle.mac_frame.specs.Address.{broadcast}
use Rattle.mac_frame.specs.Management.{management_header}
use Rattle.elements.specs.Rates.{extended_rates}
use Rattle.tim.specs.Tim.{SameNumbers, tim_octets}
use Rattle.beacon.specs.Advert.{Announced, fixed_fields, network_elements}
use Rattle.beacon.specs.Beacon.{beacon, beacon_subtype, dtim_count, traffic_indicator}

-- ---- the beacon

-- what a TIM is for two tests that agree at each identifier
abbrev pub IsSameTim : Type 0
IsSameTim =
    (count period : ℕ) (group : Bool) (members others : ℕ → Bool) → SameNumbers members others → tim_octets count period group members ≡ tim_octets count period group others

-- a beacon tells of the same stations by both
pub beacon-same : IsSameTim → (a : Announced) (sequence period : ℕ) (group : Bool) (members others : ℕ → Bool) → SameNumbers members others → beacon a sequence period group members ≡ beacon a sequence period group others
beacon-same law a sequence period group members others same =
    let count = dtim_count a.clock period in
    ap (λ (tim : List ℕ). management_header beacon_subtype broadcast a.bss sequence ++ (fixed_fields a ++ network_elements a ++ tim ++ extended_rates a.rates))
    (law count period (traffic_indicator count group) members others same)
