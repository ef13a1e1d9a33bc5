-- The frames of one station, and the sections of a network that hears them.
use Rattle.std.specs.Prelude.{ℕ, List, [], ◌∷◌, ◌++◌}
use Rattle.mac_frame.specs.Address.{broadcast}
use Rattle.ap_config.specs.declared.config.NetConfig.{NetConfig}
use Rattle.ap_config.specs.Samples.{station, network}
use Rattle.events.specs.declared.event.Event.{Event}
use Rattle.events.specs.declared.event.Event.TheVariants.{Air}
use Rattle.events.specs.declared.section.Section.{Section}

-- ---- probe requests of the station to all

-- with this body
abbrev pub probe_with : List ℕ → List ℕ
probe_with body =
    (0x40 ∷ 0x00 ∷ 0x00 ∷ 0x00 ∷ []) ++ broadcast ++ station ++ broadcast ++ (0x00 ∷ 0x00 ∷ []) ++ body

-- Supported Rates of the station
abbrev pub station_rates : List ℕ
station_rates = 0x01 ∷ 0x04 ∷ 0x02 ∷ 0x04 ∷ 0x0b ∷ 0x16 ∷ []

-- for any network, octet by octet
abbrev pub probe : List ℕ
probe =
    0x40 ∷ 0x00 ∷ 0x00 ∷ 0x00
    ∷ 0xff ∷ 0xff ∷ 0xff ∷ 0xff ∷ 0xff ∷ 0xff
    ∷ 0x02 ∷ 0xaa ∷ 0x00 ∷ 0x00 ∷ 0x00 ∷ 0x01
    ∷ 0xff ∷ 0xff ∷ 0xff ∷ 0xff ∷ 0xff ∷ 0xff
    ∷ 0x00 ∷ 0x00
    ∷ 0x00 ∷ 0x00 ∷ 0x01 ∷ 0x04 ∷ 0x02 ∷ 0x04 ∷ 0x0b ∷ 0x16 ∷ []

-- for the network `other`
abbrev pub probe_for_another : List ℕ
probe_for_another = probe_with ((0x00 ∷ 0x05 ∷ 0x6f ∷ 0x74 ∷ 0x68 ∷ 0x65 ∷ 0x72 ∷ []) ++ station_rates)

-- for the network `lab`
abbrev pub probe_for_lab : List ℕ
probe_for_lab = probe_with ((0x00 ∷ 0x03 ∷ 0x6c ∷ 0x61 ∷ 0x62 ∷ []) ++ station_rates)

-- ---- the answer, octet by octet, with these octets of Sequence Control

abbrev pub response_with : ℕ → ℕ → List ℕ
response_with low high =
    0x50 ∷ 0x00 ∷ 0x00 ∷ 0x00
    ∷ 0x02 ∷ 0xaa ∷ 0x00 ∷ 0x00 ∷ 0x00 ∷ 0x01
    ∷ 0x02 ∷ 0x00 ∷ 0x00 ∷ 0x00 ∷ 0x00 ∷ 0x01
    ∷ 0x02 ∷ 0x00 ∷ 0x00 ∷ 0x00 ∷ 0x00 ∷ 0x01
    ∷ low ∷ high
    ∷ 0x00 ∷ 0x00 ∷ 0x00 ∷ 0x00 ∷ 0x00 ∷ 0x00 ∷ 0x00 ∷ 0x00
    ∷ 0x64 ∷ 0x00
    ∷ 0x01 ∷ 0x00
    ∷ 0x00 ∷ 0x03 ∷ 0x6c ∷ 0x61 ∷ 0x62
    ∷ 0x01 ∷ 0x04 ∷ 0x82 ∷ 0x84 ∷ 0x0b ∷ 0x16
    ∷ 0x03 ∷ 0x01 ∷ 0x06 ∷ []

-- ---- the sections of a few events, computed

-- of a network that knows no station, with this history, of which no event is unread, and these frames on the air
abbrev pub section_with_air : NetConfig → List Event → ℕ → List (List ℕ) → Section
section_with_air config events count air = record {
  config = config;
  events = events;
  table = [];
  counts = record { events = count; clock = 0; unread = 0; lost = 0; kept = 0 };
  air = air;
  wire = [];
}

abbrev pub section_of_no_event : Section
section_of_no_event = section_with_air network [] 0 []

abbrev pub section_of_one_probe : Section
section_of_one_probe = section_with_air network (Air probe ∷ []) 1 (response_with 0x00 0x00 ∷ [])

abbrev pub section_of_a_probe_for_another : Section
section_of_a_probe_for_another = section_with_air network (Air probe_for_another ∷ []) 1 []

-- a network that may take one event
abbrev pub network_of_one_event : NetConfig
network_of_one_event = record network { max_events = 1 }

abbrev pub section_of_a_short_history : Section
section_of_a_short_history =
    section_with_air network_of_one_event (Air probe ∷ []) 1 (response_with 0x00 0x00 ∷ [])
