-- What is known of a network in the end (profile).
use Rattle.std.specs.Prelude.{List, length, ℕ, map}
use Rattle.ap_config.specs.declared.setting.Setting.{Setting}
use Rattle.network.specs.Network.{alone, table_of, counts_of}
use Rattle.events.specs.declared.event.Event.{Event}
use Rattle.events.specs.declared.section.Section.{Section}
use Rattle.std.specs.List.{range_with_len}
use Rattle.ap_config.specs.declared.config.RadioConfig.{RadioConfig}
use Rattle.ap_config.specs.Places.{setting_at, network_at}
use Rattle.events.specs.declared.line.Line.{Line}
use Rattle.events.specs.Lines.{own_events}

-- the section of a network that took these events and no other
abbrev pub section_of : Setting → List Event → Section
section_of s es = record {
  config = s.network;
  events = es;
  table = table_of (alone s es);
  counts = counts_of (length es) (alone s es);
  air = (alone s es).air;
  wire = (alone s es).wire;
}

-- the section of each network, alone with the events of its place, in order of place
abbrev pub sections_of : RadioConfig → (ℕ → List Event) → List Section
sections_of c events_at =
    map (λ place. section_of (setting_at c place) (events_at place)) (range_with_len 0 (length c.networks))

-- the section of each network, alone with its own events of the lines, in order of place
abbrev pub sections_of_lines : RadioConfig → List Line → List Section
sections_of_lines c lines = sections_of c (λ place. own_events place (network_at c place) lines)
