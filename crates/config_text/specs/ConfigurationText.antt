-- The configuration that a text writes, or its first fault.
use Rattle.std.specs.Prelude.{ℕ, ℤ, pos, negsuc, ◌==◌, nat_le, Bool, true, false, not, ◌&&◌, ◌||◌, if◌then◌else◌, ⊤}
use Rattle.std.specs.Prelude.{List, [], ◌∷◌, ◌++◌, length, codes, Option, Some, None, is_some, option_and_then, Result}
use Rattle.std.specs.Prelude.{Ok, Err}
use Rattle.std.specs.List.{list_any, list_all}
use Rattle.std.specs.Option.{ok_or, option_map_or}
use Rattle.std.specs.Result.{result_ok}
use Rattle.std.specs.Str.{bytes_eq, is_utf8}
use Rattle.toml.specs.Data.{table, Items, no_items, item, Members, no_members, member, get_member, as_str, as_integer}
use Rattle.toml.specs.Data.{as_array, as_table, as_bool}
use Rattle.toml.specs.Parse.{parse_document}
use Rattle.hex.specs.Hex.{decode_of}
use Rattle.mac_frame.specs.Address.{address_of, is_group}
use Rattle.ap_config.specs.Configuration.{is_between, most_networks, channel_fits, interval_fits, queue_fits, ssid_fits}
use Rattle.ap_config.specs.Configuration.{rates_fit, dtim_fits, max_stations_fits, max_known_fits, quota_fits}
use Rattle.ap_config.specs.Configuration.{max_events_fits, is_taken, of_radio, of_network}
use Rattle.ap_config.specs.declared.config.NetConfig.{NetConfig}
use Rattle.ap_config.specs.declared.config.RadioConfig.{RadioConfig}
use Rattle.ap_config.specs.declared.config.ConfigFault.{ConfigFault}
use Rattle.text_io.specs.Faults.{◌>>=◌}
use Rattle.config_text.specs.declared.version.Version.{Version}
use Rattle.config_text.specs.declared.version.Version.TheVariants.{One, Two}

-- ---- tests

-- what has to hold, or else this fault
abbrev pub demand : Bool → ConfigFault → Result ⊤ ConfigFault
demand holds fault = if holds then Ok tt else Err fault

-- the value, where it passes a test
abbrev pub passing : {A : Type 0} → (A → Bool) → A → Option A
passing test x = if test x then Some x else None

-- ---- the value at a key

-- an integer that is not negative
abbrev pub natural : ℤ → Option ℕ
natural (pos n) = Some n
natural (negsuc n) = None

-- the integer at a key, where it lies within its limits
unfoldable pub number_at : (ℕ → Bool) → List ℕ → Members → Option ℕ
number_at fits key ms =
    option_and_then (passing fits) (option_and_then natural (option_and_then as_integer (get_member key ms)))

-- the text at a key
unfoldable pub text_at : List ℕ → Members → Option (List ℕ)
text_at key ms = option_and_then as_str (get_member key ms)

-- the array at a key
unfoldable pub array_at : List ℕ → Members → Option Items
array_at key ms = option_and_then as_array (get_member key ms)

-- the truth value at a key
unfoldable pub truth_at : List ℕ → Members → Option Bool
truth_at key ms = option_and_then as_bool (get_member key ms)

-- ---- the versions of a text

abbrev pub version_of : ℕ → Option Version
version_of number = if number == 1 then Some One else if number == 2 then Some Two else None

unfoldable pub version_at : Members → Option Version
version_at top = option_and_then version_of (number_at (is_between 1 2) (codes "version") top)

-- how many networks there may be
abbrev pub most_networks_in : Version → ℕ
most_networks_in One = 8
most_networks_in Two = most_networks

-- ---- the keys that there are

abbrev pub radio_keys : List (List ℕ)
radio_keys = codes "version" ∷ codes "channel" ∷ codes "interval" ∷ codes "queue" ∷ codes "network" ∷ []

abbrev pub first_keys : List (List ℕ)
first_keys =
    codes "bssid" ∷ codes "ssid" ∷ codes "rates" ∷ codes "dtim"
    ∷ codes "max_stations" ∷ codes "max_known" ∷ codes "quota" ∷ codes "max_events"
    ∷ []

-- those of a network; version 2 has two more
abbrev pub network_keys : Version → List (List ℕ)
network_keys One = first_keys
network_keys Two = first_keys ++ codes "relay" ∷ codes "aging" ∷ []

-- each key of a table is one of these
abbrev pub has_only : List (List ℕ) → Members → Bool
has_only keys no_members = true
has_only keys (member key d ms) = list_any (bytes_eq key) keys && has_only keys ms

-- the tables of an array, its other values left out
abbrev pub tables_in : Items → List Members
tables_in no_items = []
tables_in (item (table ms) ds) = ms ∷ tables_in ds
tables_in (item d ds) = tables_in ds

-- each key is listed, at the top and in the tables of the array of networks
unfoldable pub is_listed : Version → Members → Bool
is_listed version top =
    has_only radio_keys top
    && option_map_or (λ ds. list_all (has_only (network_keys version)) (tables_in ds))
    (array_at (codes "network") top) true

-- ---- one network

-- a fault of the network that stands after others
abbrev pub fault_after : List NetConfig → ℕ → ConfigFault
fault_after earlier code = of_network code (length earlier)

-- no group address, and no earlier network's
unfoldable pub bssid_at : List NetConfig → Members → Option (List ℕ)
bssid_at earlier ms =
    option_and_then (passing (λ bssid. not (is_group bssid || is_taken earlier bssid)))
    (option_and_then address_of (text_at (codes "bssid") ms))

unfoldable pub ssid_at : Members → Option (List ℕ)
ssid_at ms = option_and_then (passing ssid_fits) (text_at (codes "ssid") ms)

-- the octets that hexadecimal digits spell
abbrev pub octets_of_digits : List ℕ → Option (List ℕ)
octets_of_digits digits = result_ok (decode_of digits)

unfoldable pub rates_at : Members → Option (List ℕ)
rates_at ms = option_and_then (passing rates_fit) (option_and_then octets_of_digits (text_at (codes "rates") ms))

-- the network of a table after earlier networks, as version 1 says it: it relays, and its units don't age
unfoldable pub network_of_table : List NetConfig → Members → Result NetConfig ConfigFault
network_of_table earlier ms = do
  bssid ← ok_or (bssid_at earlier ms) (fault_after earlier 8)
  ssid ← ok_or (ssid_at ms) (fault_after earlier 9)
  rates ← ok_or (rates_at ms) (fault_after earlier 10)
  dtim ← ok_or (number_at dtim_fits (codes "dtim") ms) (fault_after earlier 11)
  max_stations ← ok_or (number_at max_stations_fits (codes "max_stations") ms) (fault_after earlier 11)
  max_known ← ok_or (number_at max_known_fits (codes "max_known") ms) (fault_after earlier 11)
  quota ← ok_or (number_at quota_fits (codes "quota") ms) (fault_after earlier 11)
  max_events ← ok_or (number_at max_events_fits (codes "max_events") ms) (fault_after earlier 11)
  _ ← demand (nat_le max_stations max_known) (fault_after earlier 12)
  Ok (record {
    bssid = bssid;
    ssid = ssid;
    rates = rates;
    dtim = dtim;
    max_stations = max_stations;
    max_known = max_known;
    quota = quota;
    max_events = max_events;
    relay = true;
    aging = false;
  })

-- version 2 says of each network whether it relays, and whether its units age
unfoldable pub with_options : List NetConfig → Members → NetConfig → Result NetConfig ConfigFault
with_options earlier ms network = do
  relay ← ok_or (truth_at (codes "relay") ms) (fault_after earlier 13)
  aging ← ok_or (truth_at (codes "aging") ms) (fault_after earlier 13)
  Ok (record network { relay = relay; aging = aging })

-- the network of a table of a version after earlier networks
abbrev pub network_of : Version → List NetConfig → Members → Result NetConfig ConfigFault
network_of One earlier ms = network_of_table earlier ms
network_of Two earlier ms = network_of_table earlier ms >>= with_options earlier ms

-- the networks of the tables from one on, after earlier networks
abbrev pub networks_of : Version → List NetConfig → List Members → Result (List NetConfig) ConfigFault
networks_of version earlier [] = Ok []
networks_of version earlier (ms ∷ rest) = do
  network ← network_of version earlier ms
  networks ← networks_of version (earlier ++ network ∷ []) rest
  Ok (network ∷ networks)

-- ---- the radio and its networks

-- the array has no value but tables
abbrev pub are_tables : Items → Bool
are_tables no_items = true
are_tables (item d ds) = is_some (as_table d) && are_tables ds

-- the array of networks: tables alone, as many as there may be
unfoldable pub networks_at : Version → Members → Option Items
networks_at version top =
    option_and_then (passing (λ ds. are_tables ds && is_between 1 (most_networks_in version) (length (tables_in ds))))
    (array_at (codes "network") top)

-- the configuration of a document
unfoldable pub radio_of : Members → Result RadioConfig ConfigFault
radio_of top = do
  version ← ok_or (version_at top) (of_radio 2)
  _ ← demand (is_listed version top) (of_radio 3)
  channel ← ok_or (number_at channel_fits (codes "channel") top) (of_radio 4)
  interval ← ok_or (number_at interval_fits (codes "interval") top) (of_radio 5)
  queue ← ok_or (number_at queue_fits (codes "queue") top) (of_radio 6)
  values ← ok_or (networks_at version top) (of_radio 7)
  networks ← networks_of version [] (tables_in values)
  Ok (record { channel = channel; interval = interval; queue = queue; networks = networks })

-- the document that a text is: UTF-8, and TOML
unfoldable pub document_of : List ℕ → Option Members
document_of text = if is_utf8 text then parse_document text else None

-- the configuration of a text
unfoldable pub configuration_of : List ℕ → Result RadioConfig ConfigFault
configuration_of text = do
  top ← ok_or (document_of text) (of_radio 1)
  radio_of top
