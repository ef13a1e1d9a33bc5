-- Which configurations are sound, and the first fault of one that isn't (profile).
use Rattle.std.specs.Prelude.{ℕ, ◌++◌, nat_le, nat_lt, Bool, true, not, ◌&&◌, List, [], ◌∷◌, length, Option, Some, None}
use Rattle.std.specs.Prelude.{if◌then◌else◌}
use Rattle.std.specs.List.{list_any, list_all}
use Rattle.std.specs.Str.{bytes_eq}
use Rattle.mac_frame.specs.Address.{is_group}
use Rattle.elements.specs.Rates.{units_of, is_rate_among}
use Rattle.ap_config.specs.declared.config.NetConfig.{NetConfig}
use Rattle.ap_config.specs.declared.config.RadioConfig.{RadioConfig}
use Rattle.ap_config.specs.declared.config.ConfigFault.{ConfigFault}

-- ---- the limits

abbrev pub is_between : ℕ → ℕ → ℕ → Bool
is_between low high n = nat_le low n && nat_le n high

abbrev pub channel_fits : ℕ → Bool
channel_fits = is_between 1 14

abbrev pub interval_fits : ℕ → Bool
interval_fits = is_between 1 65535

abbrev pub queue_fits : ℕ → Bool
queue_fits = is_between 1 4096

-- the most networks of a radio
abbrev pub most_networks : ℕ
most_networks = 16

abbrev pub count_fits : ℕ → Bool
count_fits = is_between 1 most_networks

abbrev pub ssid_fits : List ℕ → Bool
ssid_fits ssid = is_between 1 32 (length ssid)

-- a rate of at most 54 Mb/s, basic or not
abbrev pub is_rate : ℕ → Bool
is_rate octet = is_between 1 108 (units_of octet)

-- no two are the same rate, basic or not
abbrev pub are_different : List ℕ → Bool
are_different [] = true
are_different (rate ∷ rates) = not (is_rate_among rate rates) && are_different rates

abbrev pub rates_fit : List ℕ → Bool
rates_fit rates = is_between 1 16 (length rates) && list_all is_rate rates && are_different rates

abbrev pub dtim_fits : ℕ → Bool
dtim_fits = is_between 1 255

abbrev pub max_stations_fits : ℕ → Bool
max_stations_fits = is_between 1 2007

abbrev pub max_known_fits : ℕ → Bool
max_known_fits = is_between 1 10000

abbrev pub quota_fits : ℕ → Bool
quota_fits = is_between 0 100000

abbrev pub max_events_fits : ℕ → Bool
max_events_fits = is_between 1 1000000

abbrev pub numbers_fit : NetConfig → Bool
numbers_fit n =
    dtim_fits n.dtim && max_stations_fits n.max_stations && max_known_fits n.max_known && quota_fits n.quota
    && max_events_fits n.max_events

-- ---- the faults in their order

abbrev pub of_radio : ℕ → ConfigFault
of_radio code = record { code = code; place = None }

abbrev pub of_network : ℕ → ℕ → ConfigFault
of_network code place = record { code = code; place = Some place }

-- the first fault of the radio's own settings
abbrev pub setting_fault : ℕ → ℕ → Option ℕ
setting_fault channel interval =
    if not (channel_fits channel) then Some 4
    else if not (interval_fits interval) then Some 5
    else None

-- the first fault of a network by itself
abbrev pub network_fault : NetConfig → Option ℕ
network_fault n =
    if is_group n.bssid then Some 8
    else if not (ssid_fits n.ssid) then Some 9
    else if not (rates_fit n.rates) then Some 10
    else if not (numbers_fit n) then Some 11
    else if nat_lt n.max_known n.max_stations then Some 12
    else None

-- a network among others has this BSSID
abbrev pub is_taken : List NetConfig → List ℕ → Bool
is_taken others bssid = list_any (λ other. bytes_eq other.bssid bssid) others

-- the first fault of a network that stands after these
abbrev pub fault_among : List NetConfig → NetConfig → Option ℕ
fault_among earlier n = if is_taken earlier n.bssid then Some 8 else network_fault n

-- the fault of the network at a place, and else that of later ones
abbrev pub fault_at : ℕ → Option ℕ → Option ConfigFault → Option ConfigFault
fault_at place (Some code) later = Some (of_network code place)
fault_at place None later = later

-- the first fault of the networks, each after those before it
abbrev pub networks_fault : List NetConfig → List NetConfig → Option ConfigFault
networks_fault earlier [] = None
networks_fault earlier (n ∷ ns) =
    fault_at (length earlier) (fault_among earlier n) (networks_fault (earlier ++ n ∷ []) ns)

-- the first fault of a configuration
abbrev pub fault_of : RadioConfig → Option ConfigFault
fault_of c =
    if not (channel_fits c.channel) then Some (of_radio 4)
    else if not (interval_fits c.interval) then Some (of_radio 5)
    else if not (queue_fits c.queue) then Some (of_radio 6)
    else if not (count_fits (length c.networks)) then Some (of_radio 7)
    else networks_fault [] c.networks
