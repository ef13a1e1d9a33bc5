-- Which event a line is to a network of a moment.
use Rattle.std.specs.Prelude.{ℕ, Option}
use Rattle.network.specs.NetworkView.{NetworkState}
use Rattle.events.specs.Lines.{event_for}
use Rattle.events.specs.declared.event.Event.{Event}
use Rattle.events.specs.declared.line.Line.{Line}
use Rattle.live_rules.specs.Moments.{bssid_of}

-- the event that a line is to this network at this place, at most one
abbrev pub event_at : ℕ → NetworkState → Line → Option Event
event_at place n said = event_for place (bssid_of n) said
