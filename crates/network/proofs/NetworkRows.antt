-- Events on which the network alone is computed.
use Rattle.std.proofs.Common.{◌≡◌, ℕ, true, false, List, [], ◌∷◌, ◌++◌, take, Some, None, refl, Option}
use Rattle.std.specs.Prelude.{map, replicate}
use Rattle.beacon.specs.ProbeResponse.{timestamp, fixed_fields, network_elements}
use Rattle.elements.specs.Elements.{elements_of, elements_within}
use Rattle.network.specs.Network.{empty_network, asks_for, step, alone}
use Rattle.network.specs.Section.{section_of}
use Rattle.events.specs.declared.event.Event.{Event}
use Rattle.events.specs.declared.event.Event.TheVariants.{Air}
use Rattle.ap_config.specs.Samples.{bssid, station, setting, lab}
use Rattle.network.specs.Samples.{probe, probe_with, probe_for_another, probe_for_lab, station_rates, response_with, network_of_one_event}
use Rattle.network.specs.Samples.{section_of_no_event, section_of_one_probe, section_of_a_probe_for_another, section_of_a_short_history}
use Rattle.mac_frame.proofs.Rows.{Computes}

-- ---- which probes ask for a network

pub which_probes_ask : Computes (λ (of : List ℕ × Option (List ℕ)). asks_for of.0 of.1) (
    ("a probe without SSID asks for none", (lab, None), false)
    ∷ ("a wildcard probe asks for it", (lab, Some []), true)
    ∷ ("its SSID asks for it", (lab, Some lab), true)
    ∷ ("another SSID does not", (lab, Some (0x6c ∷ 0x61 ∷ 0x63 ∷ [])), false)
    ∷ ("another case does not", (lab, Some (0x4c ∷ 0x61 ∷ 0x62 ∷ [])), false)
    ∷ ("a prefix does not", (lab, Some (0x6c ∷ 0x61 ∷ [])), false)
    ∷ ("one octet more does not", (lab, Some (0x6c ∷ 0x61 ∷ 0x62 ∷ 0x00 ∷ [])), false)
    ∷ ("thirty three octets do not", (replicate 32 0x61, Some (replicate 33 0x61)), false)
    ∷ ("thirty two octets may", (replicate 32 0x61, Some (replicate 32 0x61)), true)
    ∷ [])
which_probes_ask = refl

-- ---- answers

pub answered_frames : Computes (λ (x : List Event). (alone setting x).air) (
    ("a wildcard probe is answered", Air probe ∷ [], response_with 0x00 0x00 ∷ [])
    ∷ ("a probe for the network is answered", Air probe_for_lab ∷ [], response_with 0x00 0x00 ∷ [])
    ∷ ("the second answer has sequence number 1", Air probe ∷ Air probe ∷ [], response_with 0x00 0x00 ∷ response_with 0x10 0x00 ∷ [])
    ∷ ("what is not answered takes no sequence number", Air probe ∷ Air probe_for_another ∷ Air (take 9 probe) ∷ Air probe ∷ [], response_with 0x00 0x00 ∷ response_with 0x10 0x00 ∷ [])
    ∷ [])
unfolding alone timestamp fixed_fields network_elements elements_of elements_within
answered_frames = refl

pub the_last_sequence_number_is_4095 : step setting (record empty_network { sequence = 4095 }) (Air probe) ≡ record empty_network { sequence = 0; air = response_with 0xf0 0xff ∷ [] }
unfolding timestamp fixed_fields network_elements elements_of elements_within
the_last_sequence_number_is_4095 = refl

-- ---- sections

pub events_are_counted_whatever_they_are : (section_of setting (Air probe ∷ Air [] ∷ Air probe_for_another ∷ [])).counts ≡ record { events = 3; clock = 0; unread = 1; lost = 0; kept = 0 }
unfolding alone timestamp fixed_fields network_elements elements_of elements_within
events_are_counted_whatever_they_are = refl

pub a_probe_to_the_network_is_answered :
    (alone setting (Air ((0x40 ∷ 0x00 ∷ 0x00 ∷ 0x00 ∷ []) ++ bssid ++ station ++ bssid ++ (0x00 ∷ 0x00 ∷ 0x00 ∷ 0x00 ∷ [])) ∷ [])).air
    ≡ response_with 0x00 0x00 ∷ []
unfolding alone timestamp fixed_fields network_elements elements_of elements_within
a_probe_to_the_network_is_answered = refl

-- 3 intervals of 100 time units are 307,200 microseconds
pub an_answer_carries_the_clock :
    (step setting (record empty_network { clock = 3 }) (Air probe)).air
    ≡ ((0x50 ∷ 0x00 ∷ 0x00 ∷ 0x00 ∷ []) ++ station ++ bssid ++ bssid ++ (0x00 ∷ 0x00 ∷ [])
    ++ (0x00 ∷ 0xb0 ∷ 0x04 ∷ 0x00 ∷ 0x00 ∷ 0x00 ∷ 0x00 ∷ 0x00 ∷ 0x64 ∷ 0x00 ∷ 0x01 ∷ 0x00 ∷ [])
    ++ (0x00 ∷ 0x03 ∷ 0x6c ∷ 0x61 ∷ 0x62 ∷ 0x01 ∷ 0x04 ∷ 0x82 ∷ 0x84 ∷ 0x0b ∷ 0x16 ∷ 0x03 ∷ 0x01 ∷ 0x06 ∷ [])) ∷ []
unfolding timestamp fixed_fields network_elements elements_of elements_within
an_answer_carries_the_clock = refl

-- a history that one event fills changes nothing of the answer
pub the_section_of_a_short_history : section_of (record setting { network = network_of_one_event }) (Air probe ∷ []) ≡ section_of_a_short_history
unfolding alone timestamp fixed_fields network_elements elements_of elements_within
the_section_of_a_short_history = refl

pub sections : Computes (section_of setting) (
    ("the section of one probe", Air probe ∷ [], section_of_one_probe)
    ∷ ("the section of no event", [], section_of_no_event)
    ∷ ("the section of a probe for another", Air probe_for_another ∷ [], section_of_a_probe_for_another)
    ∷ [])
unfolding alone timestamp fixed_fields network_elements elements_of elements_within
sections = refl

-- the probe cut short at each length: 24 names no SSID, 26 the wildcard one, and the other 30 are unread
abbrev cut_at : List ℕ → List Event
cut_at lengths = map (λ n. Air (take n probe)) lengths

abbrev each_cut : List Event
each_cut =
    cut_at (0 ∷ 1 ∷ 2 ∷ 3 ∷ 4 ∷ 5 ∷ 6 ∷ 7 ∷ 8 ∷ 9 ∷ 10 ∷ 11 ∷ 12 ∷ 13 ∷ 14 ∷ 15 ∷ 16 ∷ 17 ∷ 18 ∷ 19 ∷ 20 ∷ 21 ∷ 22 ∷ 23 ∷ 24 ∷ 25 ∷ 26 ∷ 27 ∷ 28 ∷ 29 ∷ 30 ∷ 31 ∷ [])

pub what_events_make : Computes (alone setting) (
    ("an answer moves the sequence number alone", Air probe ∷ [], record empty_network { sequence = 1; air = response_with 0x00 0x00 ∷ [] })
    ∷ ("a probe for another changes nothing", Air probe_for_another ∷ [], empty_network)
    ∷ ("a probe without SSID changes nothing", Air (probe_with station_rates) ∷ [], empty_network)
    ∷ ("a short frame is counted unread", Air (take 23 probe) ∷ [], record empty_network { unread = 1 })
    ∷ ("what is not heard is counted unread", Air [] ∷ [], record empty_network { unread = 1 })
    ∷ ("an overrunning element is counted unread", Air (probe_with (0x00 ∷ 0x01 ∷ [])) ∷ [], record empty_network { unread = 1 })
    ∷ ("an SSID of 33 octets changes nothing", Air (probe_with (0x00 ∷ 33 ∷ replicate 33 0x61)) ∷ [], empty_network)
    ∷ ("a probe cut at each length", each_cut, record empty_network { sequence = 1; unread = 30; air = response_with 0x00 0x00 ∷ [] })
    ∷ [])
unfolding alone timestamp fixed_fields network_elements elements_of elements_within
what_events_make = refl
