-- Texts, and the configuration or the fault that reading finds in each.
use Prim.Native.String.{String}
use Rattle.std.proofs.Common.{◌≡◌, ℕ, codes, Bool, true, false, List, [], ◌∷◌, ◌++◌, map, Ok, Err, refl}
use Rattle.std.specs.Prelude.{replicate}
use Rattle.ap_config.specs.Configuration.{of_radio, of_network}
use Rattle.ap_config.specs.declared.config.ConfigFault.{ConfigFault}
use Rattle.ap_config.specs.declared.config.RadioConfig.{RadioConfig}
use Rattle.config_text.specs.ConfigurationText.{configuration_of}
use Rattle.config_text.specs.OnLiterals.{configuration_on_literals}

-- ---- the texts

-- the radio's keys, with this version and this channel
abbrev radio_text : String → String → List ℕ
radio_text version channel =
    codes "version = " ++ codes version ++ codes "\nchannel = " ++ codes channel
    ++ codes "\ninterval = 100\nqueue = 64\n"

-- a network's keys, with these values of three of them
abbrev keys_text : String → String → String → List ℕ
keys_text bssid rates max_known =
    codes "bssid = \"" ++ codes bssid ++ codes "\"\nssid = \"lab\"\nrates = \"" ++ codes rates
    ++ codes "\"\ndtim = 1\nmax_stations = 8\nmax_known = " ++ codes max_known
    ++ codes "\nquota = 8\nmax_events = 100\n"

abbrev sound_radio : List ℕ
sound_radio = radio_text "1" "6"

abbrev entry : List ℕ
entry = codes "[[network]]\n"

-- the table of a network, with these values of three of its keys
abbrev network_text : String → String → String → List ℕ
network_text bssid rates max_known = entry ++ keys_text bssid rates max_known

abbrev sound_network : List ℕ
sound_network = network_text "02:00:00:00:00:01" "82840b16" "16"

abbrev colour : List ℕ
colour = codes "colour = 1\n"

-- ---- what is found in them

-- the configuration of these keys
abbrev lab_radio : Bool → Bool → RadioConfig
lab_radio relay aging = record {
  channel = 6;
  interval = 100;
  queue = 64;
  networks = record {
    bssid = 2 ∷ 0 ∷ 0 ∷ 0 ∷ 0 ∷ 1 ∷ [];
    ssid = codes "lab";
    rates = 130 ∷ 132 ∷ 11 ∷ 22 ∷ [];
    dtim = 1;
    max_stations = 8;
    max_known = 16;
    quota = 8;
    max_events = 100;
    relay = relay;
    aging = aging;
  } ∷ [];
}

-- each row tells what is wrong, or what is tried; this text has this fault
abbrev AreRefused : List (String × List ℕ × ConfigFault) → Type 0
AreRefused rows = map (λ (row : String × List ℕ × ConfigFault). configuration_of row.1) rows
    ≡ map (λ (row : String × List ℕ × ConfigFault). Err row.2) rows

base_is_read : configuration_of (sound_radio ++ sound_network) ≡ Ok (lab_radio true false)
unfolding configuration_on_literals
base_is_read = refl

each_fault : AreRefused (
    ("octet 255", 255 ∷ [], of_radio 1)
    ∷ ("a key without a value", codes "version =", of_radio 1)
    ∷ ("version 3", radio_text "3" "6" ++ sound_network, of_radio 2)
    ∷ ("version 0", radio_text "0" "6" ++ sound_network, of_radio 2)
    ∷ ("an unlisted key at the top", sound_radio ++ colour ++ sound_network, of_radio 3)
    ∷ ("an unlisted key beside a number", sound_radio ++ codes "network = [{ colour = 1 }, 2]\n", of_radio 3)
    ∷ ("channel 15", radio_text "1" "15" ++ sound_network, of_radio 4)
    -- their keys are not looked at either, but that each is listed
    ∷ ("nine networks", sound_radio ++ codes "network = [{}, {}, {}, {}, {}, {}, {}, {}, {}]\n", of_radio 7)
    ∷ ("as many as there may be", sound_radio ++ codes "network = [{}, {}, {}, {}, {}, {}, {}, {}]\n", of_network 8 0)
    ∷ ("the address of an earlier network", sound_radio ++ sound_network ++ sound_network, of_network 8 1)
    -- its keys are not looked at
    ∷ ("a single table", sound_radio ++ codes "[network]\ncolour = 1\n", of_radio 7)
    ∷ ("a group address", sound_radio ++ network_text "03:00:00:00:00:01" "82840b16" "16", of_network 8 0)
    -- with the mark of a basic rate and without it
    ∷ ("a rate twice", sound_radio ++ network_text "02:00:00:00:00:01" "8202" "16", of_network 10 0)
    ∷ ("fewer known than associated", sound_radio ++ network_text "02:00:00:00:00:01" "82840b16" "4", of_network 12 0)
    ∷ ("the BSSID before the rates", sound_radio ++ network_text "03:00:00:00:00:01" "8202" "4", of_network 8 0)
    ∷ [])
unfolding configuration_on_literals
each_fault = refl

-- the version, and unlisted keys before what follows them
version_and_unlisted_keys : AreRefused (
    ("no version", codes "channel = 6\n", of_radio 2)
    ∷ ("a text as the version", radio_text "\"1\"" "6" ++ sound_network, of_radio 2)
    ∷ ("the version before unlisted keys", radio_text "3" "6" ++ colour ++ sound_network, of_radio 2)
    ∷ ("unlisted keys before the channel", radio_text "1" "15" ++ colour ++ sound_network, of_radio 3)
    ∷ ("an unlisted key of a network", sound_radio ++ sound_network ++ colour, of_radio 3)
    -- its keys are not looked at
    ∷ ("a table for a number", radio_text "1" "{ colour = 1 }" ++ sound_network, of_radio 4)
    ∷ [])
unfolding configuration_on_literals
version_and_unlisted_keys = refl

-- ---- the radio's numbers

abbrev numbers_text : String → List ℕ
numbers_text interval_and_queue = codes "version = 1\nchannel = 6\n" ++ codes interval_and_queue ++ sound_network

numbers_of_the_radio : AreRefused (
    ("no channel", codes "version = 1\ninterval = 100\nqueue = 64\n" ++ sound_network, of_radio 4)
    ∷ ("interval 65535 is read", numbers_text "interval = 65535\nqueue = 0\n", of_radio 6)
    ∷ ("interval 65536", numbers_text "interval = 65536\nqueue = 64\n", of_radio 5)
    ∷ ("an interval below 0", numbers_text "interval = -1\nqueue = 64\n", of_radio 5)
    ∷ ("the interval before the queue", numbers_text "interval = 0\nqueue = 0\n", of_radio 5)
    ∷ ("queue 4097", numbers_text "interval = 100\nqueue = 4097\n", of_radio 6)
    ∷ ("a text as the queue", numbers_text "interval = 100\nqueue = \"64\"\n", of_radio 6)
    ∷ ("no queue", numbers_text "interval = 100\n", of_radio 6)
    ∷ [])
unfolding configuration_on_literals
numbers_of_the_radio = refl

array_of_networks : AreRefused (
    ("no array", sound_radio, of_radio 7)
    ∷ ("no network", sound_radio ++ codes "network = []\n", of_radio 7)
    ∷ ("a number among networks", sound_radio ++ codes "network = [{}, 2]\n", of_radio 7)
    ∷ [])
unfolding configuration_on_literals
array_of_networks = refl

-- ---- one network: its keys and values as they stand in the text

abbrev names_text : String → List ℕ → String → List ℕ
names_text bssid ssid rates =
    sound_radio ++ entry ++ codes "bssid = " ++ codes bssid ++ codes "\nssid = " ++ ssid ++ codes "\nrates = "
    ++ codes rates
    ++ codes "\ndtim = 1\nmax_stations = 8\nmax_known = 16\nquota = 8\nmax_events = 100\n"

-- with these values of one or two keys, and sound ones of the others
abbrev with_bssid : String → List ℕ
with_bssid bssid = names_text bssid (codes "\"lab\"") "\"82840b16\""

abbrev with_names : List ℕ → String → List ℕ
with_names ssid rates = names_text "\"02:00:00:00:00:01\"" ssid rates

abbrev with_rates : String → List ℕ
with_rates rates = with_names (codes "\"lab\"") rates

names_of_a_network : AreRefused (
    ("no BSSID", sound_radio ++ entry, of_network 8 0)
    ∷ ("a BSSID of five pairs", with_bssid "\"02:00:00:00:01\"", of_network 8 0)
    ∷ ("a number as the BSSID", with_bssid "1", of_network 8 0)
    ∷ ("an empty SSID", with_names (codes "\"\"") "\"82840b16\"", of_network 9 0)
    -- the next fault is that of the rates
    ∷ ("32 octets are read", with_names (codes "\"" ++ replicate 32 97 ++ codes "\"") "\"\"", of_network 10 0)
    ∷ ("33 octets", with_names (codes "\"" ++ replicate 33 97 ++ codes "\"") "\"82840b16\"", of_network 9 0)
    ∷ ("the SSID before the rates", with_names (codes "1") "1", of_network 9 0)
    ∷ ("rates with a space", with_rates "\"8284 0b16\"", of_network 10 0)
    ∷ ("rates of odd digits", with_rates "\"82840b1\"", of_network 10 0)
    ∷ ("seventeen rates", with_rates "\"0102030405060708090a0b0c0d0e0f1011\"", of_network 10 0)
    ∷ ("a number as the rates", with_rates "82", of_network 10 0)
    ∷ [])
unfolding configuration_on_literals
names_of_a_network = refl

rates_in_upper_case_are_read : configuration_of (with_rates "\"82840B16\"")
    ≡ configuration_of (with_rates "\"82840b16\"")
unfolding configuration_on_literals
rates_in_upper_case_are_read = refl

-- ---- a network's numbers

abbrev limits_text : String → List ℕ
limits_text numbers =
    sound_radio ++ entry ++ codes "bssid = \"02:00:00:00:00:01\"\nssid = \"lab\"\nrates = \"82840b16\"\n"
    ++ codes numbers

-- each of these has one that is missing or beyond its limits
numbers_of_a_network : map (λ numbers. configuration_of (limits_text numbers)) (
    ""
    ∷ "dtim = 256\nmax_stations = 8\nmax_known = 16\nquota = 8\nmax_events = 100\n"
    ∷ "dtim = 1\nmax_stations = 2008\nmax_known = 3000\nquota = 8\nmax_events = 100\n"
    ∷ "dtim = 1\nmax_stations = 8\nmax_known = 10001\nquota = 8\nmax_events = 100\n"
    ∷ "dtim = 1\nmax_stations = 8\nmax_known = 16\nquota = -1\nmax_events = 100\n"
    ∷ "dtim = 1\nmax_stations = 8\nmax_known = 16\nquota = 100001\nmax_events = 100\n"
    ∷ "dtim = 1\nmax_stations = 8\nmax_known = 16\nquota = 8\n"
    -- also where fewer are known than associated
    ∷ "dtim = 1\nmax_stations = 8\nmax_known = 4\nquota = 8\nmax_events = 1000001\n"
    ∷ [])
    ≡ replicate 8 (Err (of_network 11 0))
unfolding configuration_on_literals
numbers_of_a_network = refl

-- keys in another order
order_of_keys_is_free :
    configuration_of
    (codes "queue = 64\nchannel = 6\nversion = 1\ninterval = 100\n" ++ entry ++ codes "max_events = 100\nquota = 8\nmax_known = 16\nmax_stations = 8\ndtim = 1\nrates = \"82840b16\"\nssid = \"lab\"\nbssid = \"02:00:00:00:00:01\"\n")
    ≡ configuration_of (sound_radio ++ sound_network)
unfolding configuration_on_literals
order_of_keys_is_free = refl

-- ---- version 2

abbrev second_radio : List ℕ
second_radio = radio_text "2" "6"

-- a network's keys, with these options after them
abbrev options_text : String → String → List ℕ
options_text relay aging =
    sound_network ++ codes "relay = " ++ codes relay ++ codes "\naging = " ++ codes aging ++ codes "\n"

options_are_read : configuration_of (second_radio ++ options_text "false" "true") ≡ Ok (lab_radio false true)
unfolding configuration_on_literals
options_are_read = refl

-- version 1 stands for these
version_1_relays_and_does_not_age : configuration_of (second_radio ++ options_text "true" "false")
    ≡ configuration_of (sound_radio ++ sound_network)
unfolding configuration_on_literals
version_1_relays_and_does_not_age = refl

options_of_a_network : AreRefused (
    ("options in version 1", sound_radio ++ options_text "true" "false", of_radio 3)
    ∷ ("no options", second_radio ++ sound_network, of_network 13 0)
    ∷ ("no aging", second_radio ++ sound_network ++ codes "relay = true\n", of_network 13 0)
    ∷ ("a number as relay", second_radio ++ options_text "1" "false", of_network 13 0)
    ∷ ("a text as aging", second_radio ++ options_text "true" "\"false\"", of_network 13 0)
    ∷ ("too few known before options", second_radio ++ network_text "02:00:00:00:00:01" "82840b16" "4", of_network 12 0)
    -- the networks are tried one after the other
    ∷ ("options before the next network", second_radio ++ sound_network ++ entry, of_network 13 0)
    ∷ (
      "seventeen networks",
      second_radio ++ codes "network = [{}, {}, {}, {}, {}, {}, {}, {}, {}, {}, {}, {}, {}, {}, {}, {}, {}]\n",
      of_radio 7,
    )
    ∷ (
      "sixteen, as many as there may be",
      second_radio ++ codes "network = [{}, {}, {}, {}, {}, {}, {}, {}, {}, {}, {}, {}, {}, {}, {}, {}]\n",
      of_network 8 0,
    )
    ∷ [])
unfolding configuration_on_literals
options_of_a_network = refl
