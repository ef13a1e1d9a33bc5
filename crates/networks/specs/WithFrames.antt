-- Networks that keep no history, with the frames that they sent (profile).
use Rattle.std.specs.Prelude.{ℕ, ◌≡◌, nat_lt, List, [], ◌∷◌, ◌++◌, length, if◌then◌else◌}
use Rattle.ap_config.specs.declared.setting.Setting.{Setting}
use Rattle.events.specs.declared.event.Event.{Event}
use Rattle.network.specs.Network.{alone}
use Rattle.network.specs.NetworkView.{unsent}
use Rattle.networks.specs.declared.network_with_frames.NetworkWithFrames.{NetworkWithFrames}
use Rattle.networks.specs.declared.sending_network.SendingNetwork.{SendingNetwork}

-- the network that took these events and no other, and its frames beside it
abbrev pub after_events : Setting → List Event → NetworkWithFrames
after_events s es = record {
  network = record { setting = s; events = length es; network = unsent (alone s es) };
  air = (alone s es).air;
  wire = (alone s es).wire;
}

-- what a network takes of an event: nothing, where its history would be full
abbrev pub taken_next : Setting → List Event → Event → List Event
taken_next s es e = if nat_lt (length es) s.network.max_events then e ∷ [] else []

-- a network took an event, unless its history would be full, whatever it took before
abbrev pub TakesUnlessFull : Event → NetworkWithFrames → NetworkWithFrames → Type 0
TakesUnlessFull e n next = (s : Setting) (es : List Event) → n ≡ after_events s es → next ≡ after_events s (es ++ taken_next s es e)

-- a network with all frames that it sent, of which those that were handed on come before those that wait
abbrev pub sent_after : List (List ℕ) → SendingNetwork → NetworkWithFrames
sent_after gone n = record { network = n.network; air = gone ++ n.waiting.items; wire = n.wire }
