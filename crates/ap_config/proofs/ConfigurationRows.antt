-- Configurations on which the first fault is computed.
use Prim.Native.String.{String}
use Rattle.std.proofs.Common.{◌≡◌, ℕ, List, [], ◌∷◌, Option, Some, None, refl}
use Rattle.std.specs.List.{range_with_len}
use Rattle.std.specs.Prelude.{◌++◌, map, replicate}
use Rattle.ap_config.specs.Configuration.{of_radio, of_network, network_fault, networks_fault, fault_of}
use Rattle.ap_config.specs.declared.config.NetConfig.{NetConfig}
use Rattle.ap_config.specs.declared.config.ConfigFault.{ConfigFault}
use Rattle.ap_config.specs.Samples.{network, radio}

-- each row tells what it shows; this configuration has this first fault, or none
abbrev Finds : {A B : Type 0} → (A → B) → List (String × A × B) → Type 0
Finds {A} {B} fault rows = map (λ (row : String × A × B). fault row.1) rows ≡ map (λ (row : String × A × B). row.2) rows

-- the radio with this network alone
abbrev fault_with : NetConfig → Option ConfigFault
fault_with n = fault_of (record radio { networks = n ∷ [] })

-- the network with this last octet of its BSSID
abbrev with_number : ℕ → NetConfig
with_number number = record network { bssid = 0x02 ∷ 0 ∷ 0 ∷ 0 ∷ 0 ∷ number ∷ [] }

abbrev second : NetConfig
second = with_number 2

pub settings_of_the_radio : Finds fault_of (
    ("the sample", radio, None)
    ∷ ("channel 0", record radio { channel = 0 }, Some (of_radio 4))
    ∷ ("channel 14", record radio { channel = 14 }, None)
    ∷ ("channel 15", record radio { channel = 15 }, Some (of_radio 4))
    ∷ ("interval 0", record radio { interval = 0 }, Some (of_radio 5))
    ∷ ("the greatest interval", record radio { interval = 65535 }, None)
    ∷ ("queue 0", record radio { queue = 0 }, Some (of_radio 6))
    ∷ ("queue 4096", record radio { queue = 4096 }, None)
    ∷ ("queue 4097", record radio { queue = 4097 }, Some (of_radio 6))
    ∷ [])
settings_of_the_radio = refl

pub numbers_of_networks : Finds (λ (networks : List NetConfig). fault_of (record radio { networks = networks })) (
    ("none", [], Some (of_radio 7))
    ∷ ("two", network ∷ second ∷ [], None)
    ∷ ("sixteen", map with_number (range_with_len 1 16), None)
    ∷ ("seventeen", map with_number (range_with_len 1 17), Some (of_radio 7))
    ∷ ("the sixteenth as the first", map with_number (range_with_len 1 15 ++ 1 ∷ []), Some (of_network 8 15))
    ∷ [])
numbers_of_networks = refl

pub bssids : Finds fault_with (
    ("a group", record network { bssid = 0x03 ∷ 0 ∷ 0 ∷ 0 ∷ 0 ∷ 0x01 ∷ [] }, Some (of_network 8 0))
    ∷ ("an odd last octet", record network { bssid = 0x02 ∷ 0 ∷ 0 ∷ 0 ∷ 0 ∷ 0xff ∷ [] }, None)
    ∷ [])
bssids = refl

-- a BSSID is refused at its second place, and compared with all before it
pub repeated_bssids : Finds (networks_fault []) (
    ("at once", network ∷ network ∷ [], Some (of_network 8 1))
    ∷ ("never", network ∷ second ∷ [], None)
    ∷ ("after another", network ∷ second ∷ network ∷ [], Some (of_network 8 2))
    ∷ [])
repeated_bssids = refl

pub ssids : Finds fault_with (
    ("no octet", record network { ssid = [] }, Some (of_network 9 0))
    ∷ ("32 octets", record network { ssid = replicate 32 0x61 }, None)
    ∷ ("33 octets", record network { ssid = replicate 33 0x61 }, Some (of_network 9 0))
    ∷ [])
ssids = refl

-- sixteen different rates, from 1 on
abbrev sixteen_rates : List ℕ
sixteen_rates = 1 ∷ 2 ∷ 3 ∷ 4 ∷ 5 ∷ 6 ∷ 7 ∷ 8 ∷ 9 ∷ 10 ∷ 11 ∷ 12 ∷ 13 ∷ 14 ∷ 15 ∷ 16 ∷ []

pub rates : Finds (λ (rates : List ℕ). fault_with (record network { rates = rates })) (
    ("none", [], Some (of_network 10 0))
    ∷ ("sixteen", sixteen_rates, None)
    ∷ ("seventeen", 17 ∷ sixteen_rates, Some (of_network 10 0))
    ∷ ("rate 0", 0x02 ∷ 0x00 ∷ [], Some (of_network 10 0))
    ∷ ("basic rate 0", 0x02 ∷ 0x80 ∷ [], Some (of_network 10 0))
    ∷ ("rate 108", 108 ∷ [], None)
    ∷ ("basic rate 108", 236 ∷ [], None)
    ∷ ("rate 109", 109 ∷ [], Some (of_network 10 0))
    ∷ ("basic rate 109", 237 ∷ [], Some (of_network 10 0))
    ∷ ("a rate twice", 0x02 ∷ 0x04 ∷ 0x02 ∷ [], Some (of_network 10 0))
    ∷ ("a rate twice, but for the basic mark", 0x82 ∷ 0x02 ∷ [], Some (of_network 10 0))
    ∷ [])
rates = refl

pub numbers : Finds fault_with (
    ("dtim 0", record network { dtim = 0 }, Some (of_network 11 0))
    ∷ ("dtim 255", record network { dtim = 255 }, None)
    ∷ ("max_stations 0", record network { max_stations = 0 }, Some (of_network 11 0))
    ∷ ("max_stations 2007", record network { max_stations = 2007; max_known = 2007 }, None)
    ∷ ("max_stations 2008", record network { max_stations = 2008; max_known = 3000 }, Some (of_network 11 0))
    ∷ ("max_known 0", record network { max_known = 0 }, Some (of_network 11 0))
    ∷ ("max_known 10000", record network { max_known = 10000 }, None)
    ∷ ("max_known 10001", record network { max_known = 10001 }, Some (of_network 11 0))
    ∷ ("quota 0", record network { quota = 0 }, None)
    ∷ ("quota 100000", record network { quota = 100000 }, None)
    ∷ ("quota 100001", record network { quota = 100001 }, Some (of_network 11 0))
    ∷ ("max_events 0", record network { max_events = 0 }, Some (of_network 11 0))
    ∷ ("max_events 1000000", record network { max_events = 1000000 }, None)
    ∷ ("max_events 1000001", record network { max_events = 1000001 }, Some (of_network 11 0))
    ∷ ("fewer known than stations", record network { max_known = 4 }, Some (of_network 12 0))
    ∷ ("as many known as stations", record network { max_known = 8 }, None)
    ∷ [])
numbers = refl

-- ---- the order of the faults: each configuration has two

pub order_in_the_radio : Finds fault_of (
    ("channel before interval", record radio { channel = 0; interval = 0 }, Some (of_radio 4))
    ∷ ("interval before queue", record radio { interval = 0; queue = 0 }, Some (of_radio 5))
    ∷ ("queue before networks", record radio { queue = 0; networks = [] }, Some (of_radio 6))
    ∷ [])
order_in_the_radio = refl

pub order_in_a_network : Finds network_fault (
    ("BSSID before SSID", record network { bssid = 0x01 ∷ 0 ∷ 0 ∷ 0 ∷ 0 ∷ 0 ∷ []; ssid = [] }, Some 8)
    ∷ ("SSID before rates", record network { ssid = []; rates = [] }, Some 9)
    ∷ ("rates before numbers", record network { rates = []; dtim = 0 }, Some 10)
    ∷ ("quota before too few known", record network { max_known = 4; quota = 100001 }, Some 11)
    ∷ [])
order_in_a_network = refl

pub order_among_networks : Finds (networks_fault []) (
    ("the first network", record network { max_known = 4 } ∷ record second { ssid = [] } ∷ [], Some (of_network 12 0))
    ∷ ("a repeated BSSID before an SSID", network ∷ record network { ssid = [] } ∷ [], Some (of_network 8 1))
    ∷ [])
order_among_networks = refl
