-- Steps on which the radio is computed: two networks, and a queue of one frame where nothing else is said; sixteen.
use Rattle.std.proofs.Common.{◌≡◌, ℕ, ◌+◌, List, [], ◌∷◌, ◌++◌, refl}
use Rattle.std.specs.Prelude.{replicate, map, flat_map, drop}
use Rattle.beacon.specs.ProbeResponse.{timestamp, fixed_fields, network_elements}
use Rattle.elements.specs.Elements.{elements_of, elements_within}
use Rattle.network.specs.Network.{alone}
use Rattle.bss_core.specs.Radio.{first_state, radio_step, after_steps, waiting_at, part_of, sections_after}
use Rattle.events.specs.Items.{items_of}
use Rattle.network.specs.Section.{section_of}
use Rattle.ap_config.specs.declared.config.NetConfig.{NetConfig}
use Rattle.ap_config.specs.declared.config.RadioConfig.{RadioConfig}
use Rattle.events.specs.declared.event.Event.{Event}
use Rattle.events.specs.declared.event.Event.TheVariants.{Air}
use Rattle.events.specs.declared.air_item.AirItem.{AirItem}
use Rattle.bss_core.specs.declared.radio.step.Step.{Step}
use Rattle.bss_core.specs.declared.radio.step.Step.TheVariants.{Take, Hand, Leave}
use Rattle.ap_config.specs.Samples.{station, network, radio, setting}
use Rattle.network.specs.Samples.{probe, probe_for_lab, response_with}

-- ---- samples

abbrev guest : NetConfig
guest = record network {
  bssid = 0x02 ∷ 0 ∷ 0 ∷ 0 ∷ 0 ∷ 0x02 ∷ [];
  ssid = 0x67 ∷ 0x75 ∷ 0x65 ∷ 0x73 ∷ 0x74 ∷ [];
}

abbrev two : RadioConfig
two = record radio { queue = 1; networks = network ∷ guest ∷ [] }

abbrev asked : Event
asked = Air probe

-- the answers of the two networks, that of the second octet by octet
abbrev answer : AirItem
answer = record { place = 0; octets = response_with 0x00 0x00 }

abbrev guest_response : List ℕ
guest_response =
    0x50 ∷ 0x00 ∷ 0x00 ∷ 0x00
    ∷ 0x02 ∷ 0xaa ∷ 0x00 ∷ 0x00 ∷ 0x00 ∷ 0x01
    ∷ 0x02 ∷ 0x00 ∷ 0x00 ∷ 0x00 ∷ 0x00 ∷ 0x02
    ∷ 0x02 ∷ 0x00 ∷ 0x00 ∷ 0x00 ∷ 0x00 ∷ 0x02
    ∷ 0x00 ∷ 0x00
    ∷ 0x00 ∷ 0x00 ∷ 0x00 ∷ 0x00 ∷ 0x00 ∷ 0x00 ∷ 0x00 ∷ 0x00
    ∷ 0x64 ∷ 0x00
    ∷ 0x01 ∷ 0x00
    ∷ 0x00 ∷ 0x05 ∷ 0x67 ∷ 0x75 ∷ 0x65 ∷ 0x73 ∷ 0x74
    ∷ 0x01 ∷ 0x04 ∷ 0x82 ∷ 0x84 ∷ 0x0b ∷ 0x16
    ∷ 0x03 ∷ 0x01 ∷ 0x06 ∷ []

abbrev guest_answer : AirItem
guest_answer = record { place = 1; octets = guest_response }

-- each network takes the probe, and the first one's answer is handed
abbrev both_asked : List Step
both_asked = Take 0 asked ∷ Take 1 asked ∷ []

abbrev three_steps : List Step
three_steps = both_asked ++ Hand 0 ∷ []

-- ---- a queue of one frame

pub a_frame_is_handed : after_steps two three_steps ≡ record {
  places = record { events = asked ∷ []; handed = 1 } ∷ record { events = asked ∷ []; handed = 0 } ∷ [];
  queue = answer ∷ [];
  left = [];
}
unfolding after_steps radio_step alone timestamp fixed_fields network_elements elements_of elements_within
a_frame_is_handed = refl

pub a_full_queue_takes_nothing : after_steps two (three_steps ++ Hand 1 ∷ []) ≡ after_steps two three_steps
unfolding after_steps radio_step alone timestamp fixed_fields network_elements elements_of elements_within
a_full_queue_takes_nothing = refl

pub a_frame_waits_while_the_queue_is_full : waiting_at two (after_steps two (three_steps ++ Hand 1 ∷ [])) 1 ≡ guest_response ∷ []
unfolding after_steps radio_step alone timestamp fixed_fields network_elements elements_of elements_within
a_frame_waits_while_the_queue_is_full = refl

pub the_first_frame_leaves : after_steps two (three_steps ++ Hand 1 ∷ Leave ∷ []) ≡ record (after_steps two three_steps) {
  queue = [];
  left = answer ∷ [];
}
unfolding after_steps radio_step alone timestamp fixed_fields network_elements elements_of elements_within
the_first_frame_leaves = refl

pub the_other_frame_is_handed_then : after_steps two (three_steps ++ Hand 1 ∷ Leave ∷ Hand 1 ∷ []) ≡ record {
  places = record { events = asked ∷ []; handed = 1 } ∷ record { events = asked ∷ []; handed = 1 } ∷ [];
  queue = guest_answer ∷ [];
  left = answer ∷ [];
}
unfolding after_steps radio_step alone timestamp fixed_fields network_elements elements_of elements_within
the_other_frame_is_handed_then = refl

pub all_leaves_once_and_no_more : after_steps two (three_steps ++ Leave ∷ Hand 1 ∷ Leave ∷ Hand 0 ∷ Hand 1 ∷ Leave ∷ []) ≡ record {
  places = record { events = asked ∷ []; handed = 1 } ∷ record { events = asked ∷ []; handed = 1 } ∷ [];
  queue = [];
  left = answer ∷ guest_answer ∷ [];
}
unfolding after_steps radio_step alone timestamp fixed_fields network_elements elements_of elements_within
all_leaves_once_and_no_more = refl

pub frames_are_handed_in_their_order :
    (after_steps (record two { queue = 2 }) (Take 0 asked ∷ Take 0 asked ∷ Hand 0 ∷ Hand 0 ∷ [])).queue
    ≡ answer ∷ (record { place = 0; octets = response_with 0x10 0x00 }) ∷ []
unfolding after_steps radio_step alone timestamp fixed_fields network_elements elements_of elements_within
frames_are_handed_in_their_order = refl

pub a_frame_handed_late_is_the_first_of_those_that_wait :
    (after_steps two (Take 0 asked ∷ Hand 0 ∷ Take 0 asked ∷ Take 0 asked ∷ Leave ∷ Hand 0 ∷ [])).queue
    ≡ (record { place = 0; octets = response_with 0x10 0x00 }) ∷ []
unfolding after_steps radio_step alone timestamp fixed_fields network_elements elements_of elements_within
a_frame_handed_late_is_the_first_of_those_that_wait = refl

-- ---- steps that do nothing

pub nothing_is_handed_where_none_waits : after_steps two (Hand 0 ∷ []) ≡ first_state two
unfolding after_steps radio_step alone
nothing_is_handed_where_none_waits = refl

pub nothing_leaves_an_empty_queue : after_steps two (Leave ∷ []) ≡ first_state two
unfolding after_steps radio_step
nothing_leaves_an_empty_queue = refl

pub a_step_that_names_no_network_does_nothing : after_steps two (Take 2 asked ∷ Hand 2 ∷ []) ≡ first_state two
unfolding after_steps radio_step
a_step_that_names_no_network_does_nothing = refl

pub what_is_not_answered_is_not_handed :
    (after_steps two (Take 1 (Air probe_for_lab) ∷ Hand 1 ∷ [])).queue ≡ []
unfolding after_steps radio_step alone elements_of elements_within
what_is_not_answered_is_not_handed = refl

-- ---- no more events than the network may take

abbrev short : RadioConfig
short = record two { networks = record network { max_events = 2 } ∷ guest ∷ [] }

abbrev three_events : List Step
three_events = Take 0 asked ∷ Take 0 (Air []) ∷ Take 1 asked ∷ Take 0 asked ∷ Take 1 asked ∷ []

pub a_third_event_is_not_taken : after_steps short three_events ≡ record {
  places = record { events = asked ∷ Air [] ∷ []; handed = 0 } ∷ record { events = asked ∷ asked ∷ []; handed = 0 } ∷ [];
  queue = [];
  left = [];
}
unfolding after_steps radio_step
a_third_event_is_not_taken = refl

pub the_part_of_a_network_is_its_first_events : part_of short 0 three_events ≡ asked ∷ Air [] ∷ []
the_part_of_a_network_is_its_first_events = refl

pub a_full_history_leaves_the_other_part : part_of short 1 three_events ≡ asked ∷ asked ∷ []
a_full_history_leaves_the_other_part = refl

pub there_is_no_part_of_no_network : part_of short 2 (Take 2 asked ∷ three_events) ≡ []
there_is_no_part_of_no_network = refl

-- ---- what belongs to one network

pub each_frame_belongs_to_its_network : items_of 1 (answer ∷ guest_answer ∷ answer ∷ []) ≡ guest_response ∷ []
each_frame_belongs_to_its_network = refl

pub the_frames_of_a_network_keep_their_order : items_of 0 (answer ∷ guest_answer ∷ (record { place = 0; octets = [] }) ∷ []) ≡ response_with 0x00 0x00 ∷ [] ∷ []
the_frames_of_a_network_keep_their_order = refl

pub each_section_is_of_its_own_events : sections_after two three_steps ≡ section_of setting (asked ∷ []) ∷ section_of (record setting { network = guest }) (asked ∷ []) ∷ []
each_section_is_of_its_own_events = refl

-- a hundred frames more to the other network
pub frames_to_the_other_network_are_no_part_of_this_one : part_of two 0 (replicate 50 (Take 1 asked) ++ three_steps ++ replicate 50 (Take 1 asked)) ≡ part_of two 0 three_steps
frames_to_the_other_network_are_no_part_of_this_one = refl

-- the answer of the second network has sequence number 0, though the first one answered twice
pub each_network_numbers_its_own_frames :
    waiting_at two (after_steps two (both_asked ++ Take 0 asked ∷ [])) 1 ≡ guest_response ∷ []
unfolding after_steps radio_step alone timestamp fixed_fields network_elements elements_of elements_within
each_network_numbers_its_own_frames = refl

-- ---- sixteen networks, and a queue of one frame

-- the place of each
abbrev places : List ℕ
places = 0 ∷ 1 ∷ 2 ∷ 3 ∷ 4 ∷ 5 ∷ 6 ∷ 7 ∷ 8 ∷ 9 ∷ 10 ∷ 11 ∷ 12 ∷ 13 ∷ 14 ∷ 15 ∷ []

-- each with a BSSID of its own, whose last octet is one more than its place
abbrev bssid_at : ℕ → List ℕ
bssid_at place = 0x02 ∷ 0 ∷ 0 ∷ 0 ∷ 0 ∷ (place + 1) ∷ []

abbrev sixteen : RadioConfig
sixteen = record radio { queue = 1; networks = map (λ place. record network { bssid = bssid_at place }) places }

-- the answer of each, by the first octet of Sequence Control
abbrev answer_at : ℕ → ℕ → AirItem
answer_at low place = record {
  place = place;
  octets =
      (0x50 ∷ 0x00 ∷ 0x00 ∷ 0x00 ∷ []) ++ station ++ bssid_at place ++ bssid_at place ++ (low ∷ 0x00 ∷ [])
      ++ (0x00 ∷ 0x00 ∷ 0x00 ∷ 0x00 ∷ 0x00 ∷ 0x00 ∷ 0x00 ∷ 0x00 ∷ 0x64 ∷ 0x00 ∷ 0x01 ∷ 0x00 ∷ [])
      ++ (0x00 ∷ 0x03 ∷ 0x6c ∷ 0x61 ∷ 0x62 ∷ 0x01 ∷ 0x04 ∷ 0x82 ∷ 0x84 ∷ 0x0b ∷ 0x16 ∷ 0x03 ∷ 0x01 ∷ 0x06 ∷ []);
}

-- Each network takes the probe, and each tries to hand its answer, for which there is room for the first alone. Then a
-- frame leaves and the next network hands its own, fifteen times, and the last frame leaves.
abbrev a_round : List Step
a_round =
    map (λ place. Take place asked) places ++ map Hand places
    ++ flat_map (λ place. Leave ∷ Hand place ∷ []) (drop 1 places) ++ Leave ∷ []

pub each_of_sixteen_networks_hands_its_answers : after_steps sixteen (a_round ++ a_round) ≡ record {
  places = map (λ place. record { events = asked ∷ asked ∷ []; handed = 2 }) places;
  queue = [];
  left = map (answer_at 0x00) places ++ map (answer_at 0x10) places;
}
unfolding after_steps radio_step alone timestamp fixed_fields network_elements elements_of elements_within
each_of_sixteen_networks_hands_its_answers = refl
