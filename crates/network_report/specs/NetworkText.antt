-- Networks that keep no history, with the frames that they sent, and what a report says of them.
use Rattle.std.specs.Prelude.{ℕ, List, [], length, map}
use Rattle.std.specs.List.{range_with_len}
use Rattle.ap_config.specs.Places.{network_at, setting_at}
use Rattle.ap_config.specs.declared.config.RadioConfig.{RadioConfig}
use Rattle.events.specs.Lines.{own_events}
use Rattle.events.specs.declared.event.Event.{Event}
use Rattle.events.specs.declared.line.Line.{Line}
use Rattle.network.specs.Network.{table_of, counts_of}
use Rattle.network.specs.NetworkView.{NetworkState}
use Rattle.report.specs.Forms.{Told, as_text, heading_in, section_in}
use Rattle.networks.specs.WithFrames.{after_events}
use Rattle.networks.specs.declared.network_with_frames.NetworkWithFrames.{NetworkWithFrames}

-- each network of a configuration, alone with the events of its place, in order of place
abbrev pub networks_after : RadioConfig → (ℕ → List Event) → List NetworkWithFrames
networks_after c events_at =
    map (λ place. after_events (setting_at c place) (events_at place)) (range_with_len 0 (length c.networks))

-- each alone with its own events of the lines
abbrev pub networks_after_lines : RadioConfig → List Line → List NetworkWithFrames
networks_after_lines c lines = networks_after c (λ place. own_events place (network_at c place) lines)

-- ---- what a report tells of a network

-- of one that has these frames
abbrev pub told_network : NetworkState → List (List ℕ) → List (List ℕ) → Told
told_network n air wire = record {
  config = n.setting.network;
  events = n.events;
  counts = counts_of n.events n.network;
  table = table_of n.network;
  air = air;
  wire = wire;
}

-- of one with the frames that it sent
abbrev pub told_with_frames : NetworkWithFrames → Told
told_with_frames n = told_network n.network n.air n.wire

-- its section without frames, each line written in a form
abbrev pub table_in : (List ℕ → List ℕ) → NetworkState → List ℕ
table_in form n = section_in form (told_network n [] [])

-- its name, its counts and its stations as text
abbrev pub heading_text : NetworkState → List ℕ
heading_text n = heading_in as_text (told_network n [] [])

-- its section as text
abbrev pub network_text : NetworkWithFrames → List ℕ
network_text n = section_in as_text (told_with_frames n)
