-- Which event a line is to which network, and which of them it takes (profile). A network is named by its place in the
-- configuration.
use Rattle.std.specs.Prelude.{ℕ, ◌==◌, nat_lt, List, [], length, take, flat_map, if◌then◌else◌, Option, Some, None}
use Rattle.std.specs.Prelude.{option_to_list}
use Rattle.mac_frame.specs.Hearing.{is_heard}
use Rattle.ap_config.specs.declared.config.NetConfig.{NetConfig}
use Rattle.events.specs.declared.event.Event.{Event}
use Rattle.events.specs.declared.event.Event.TheVariants as event
use Rattle.events.specs.declared.line.Line.{Line}
use Rattle.events.specs.declared.line.Line.TheVariants as line

-- the event of a line, to each network that hears it
abbrev pub event_of_line : Line → Event
event_of_line (line.Air x) = event.Air x
event_of_line (line.Wire place x) = event.Wire x
event_of_line line.Tick = event.Tick

-- The event that a line is to the network with this place and this BSSID, at most one: a string on the air where the
-- network hears it by its Address 1, a frame on the wire where the line names its place, and every tick.
abbrev pub event_for : ℕ → List ℕ → Line → Option Event
event_for place bss (line.Air x) = if is_heard bss x then Some (event.Air x) else None
event_for place bss (line.Wire named x) = if named == place then Some (event.Wire x) else None
event_for place bss line.Tick = Some event.Tick

-- as a list
abbrev pub heard_of : ℕ → List ℕ → Line → List Event
heard_of place bss line = option_to_list (event_for place bss line)

-- the events of the lines that a network hears, in their order
abbrev pub heard : ℕ → List ℕ → List Line → List Event
heard place bss lines = flat_map (heard_of place bss) lines

-- the events that a network takes: the first of those that it hears, as many as its history may have
abbrev pub own_events : ℕ → NetConfig → List Line → List Event
own_events place network lines = take network.max_events (heard place network.bssid lines)

-- the events that a network with this history takes of a line: none where its history is full
abbrev pub taken_of : ℕ → NetConfig → List Event → Line → List Event
taken_of place network history line =
    if nat_lt (length history) network.max_events then heard_of place network.bssid line else []
