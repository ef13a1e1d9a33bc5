-- What networks take of some lines.
use Rattle.std.proofs.Common.{◌≡◌, ℕ, List, [], ◌∷◌, ◌++◌, take, refl}
use Rattle.network.specs.Section.{section_of, sections_of_lines}
use Rattle.ap_config.specs.declared.config.NetConfig.{NetConfig}
use Rattle.events.specs.declared.event.Event.TheVariants as event
use Rattle.ap_config.specs.Samples.{bssid, station, network, setting, radio}
use Rattle.network.specs.Samples.{probe, probe_for_another}
use Rattle.events.specs.Lines.{heard, own_events}
use Rattle.events.specs.declared.line.Line.TheVariants.{Air, Wire, Tick}

-- an acknowledgement to the network, of ten octets
abbrev to_the_network : List ℕ
to_the_network = (0xd4 ∷ 0x00 ∷ 0x00 ∷ 0x00 ∷ []) ++ bssid

-- to the station, from the network
abbrev to_another : List ℕ
to_another = (0x50 ∷ 0x00 ∷ 0x00 ∷ 0x00 ∷ []) ++ station ++ bssid ++ bssid

-- what is not for the network is left out, and what is stays in its order
heard_lines_stay_in_order :
    heard 0 bssid
    (Air to_the_network ∷ Air to_another ∷ Air (take 9 probe) ∷ Air [] ∷ Air probe ∷ Air to_the_network ∷ [])
    ≡ event.Air to_the_network ∷ event.Air probe ∷ event.Air to_the_network ∷ []
heard_lines_stay_in_order = refl

-- a network that takes one event
abbrev short : NetConfig
short = record network { max_events = 1 }

second_probe_is_not_taken : own_events 0 short (Air probe ∷ Air probe ∷ []) ≡ event.Air probe ∷ []
second_probe_is_not_taken = refl

-- the first that it hears, though another line comes before it
unheard_lines_take_no_room : own_events 0 short (Air to_another ∷ Air probe ∷ Air to_the_network ∷ []) ≡ event.Air probe
    ∷ []
unheard_lines_take_no_room = refl

each_heard_line_is_taken_where_there_is_room : own_events 1 network (Air probe ∷ Air probe_for_another ∷ [])
    ≡ event.Air probe ∷ event.Air probe_for_another ∷ []
each_heard_line_is_taken_where_there_is_room = refl

no_line_is_no_event : own_events 1 network [] ≡ []
no_line_is_no_event = refl

sections_of_one_network : sections_of_lines radio (Air to_another ∷ Air probe ∷ []) ≡ section_of setting
    (event.Air probe ∷ []) ∷ []
sections_of_one_network = refl

-- each by its own limit
sections_stand_in_order_of_place :
    sections_of_lines (record radio { networks = short ∷ network ∷ [] }) (Air probe ∷ Air probe ∷ [])
    ≡ section_of (record setting { network = short }) (event.Air probe ∷ []) ∷ section_of setting
    (event.Air probe ∷ event.Air probe ∷ []) ∷ []
sections_stand_in_order_of_place = refl

-- ---- frames on the wire, and ticks

-- a frame on the wire
abbrev wired : List ℕ
wired = station ++ bssid ++ 0x08 ∷ 0x00 ∷ 0x01 ∷ []

wired_frames_go_by_their_place : heard 1 bssid (Wire 1 wired ∷ Wire 0 [] ∷ Wire 1 [] ∷ Wire 2 wired ∷ []) ≡ event.Wire
    wired ∷ event.Wire [] ∷ []
wired_frames_go_by_their_place = refl

-- whatever addresses stand in it
wired_octets_are_not_looked_at : heard 0 bssid (Wire 0 probe ∷ Wire 1 probe ∷ []) ≡ event.Wire probe ∷ []
wired_octets_are_not_looked_at = refl

every_tick_is_heard : heard 7 bssid (Tick ∷ Wire 0 wired ∷ Tick ∷ []) ≡ event.Tick ∷ event.Tick ∷ []
every_tick_is_heard = refl

lines_of_each_kind_stay_in_order : heard 0 bssid (Tick ∷ Air probe ∷ Wire 0 wired ∷ Air to_another ∷ Tick ∷ [])
    ≡ event.Tick ∷ event.Air probe ∷ event.Wire wired ∷ event.Tick ∷ []
lines_of_each_kind_stay_in_order = refl

second_tick_is_not_taken : own_events 0 short (Wire 1 wired ∷ Tick ∷ Tick ∷ []) ≡ event.Tick ∷ []
second_tick_is_not_taken = refl

wired_frame_for_no_network_does_nothing : sections_of_lines radio (Wire 1 wired ∷ []) ≡ section_of setting [] ∷ []
wired_frame_for_no_network_does_nothing = refl

each_network_has_its_own_wired_frames_and_every_tick :
    sections_of_lines (record radio { networks = short ∷ network ∷ [] }) (Wire 1 wired ∷ Tick ∷ Wire 0 wired ∷ [])
    ≡ section_of (record setting { network = short }) (event.Tick ∷ []) ∷ section_of setting
    (event.Wire wired ∷ event.Tick ∷ []) ∷ []
each_network_has_its_own_wired_frames_and_every_tick = refl
