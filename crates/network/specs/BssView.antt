-- What contracts see of a network that runs (profile).
use Rattle.std.specs.Prelude.{ℕ, ◌≤◌, ◌≡◌, ◌++◌, Bool, List, [], ◌∷◌, length, drop, None, false}
use Rattle.ap_config.specs.Configuration.{network_fault}
use Rattle.ap_config.specs.declared.setting.Setting.{Setting}
use Rattle.network.specs.Network.{Network, alone, table_of, counts_of}
use Rattle.network.specs.NetworkView.{NetworkState, unsent}
use Rattle.events.specs.declared.event.Event.{Event}
use Rattle.ap_config.specs.declared.config.NetConfig.{NetConfig}
use Rattle.events.specs.declared.section.Section.{Section}

-- its setting, the events that it took, the frames that wait to leave, and whether there is a slot for one to be
-- given back; its table, its counts and its wired frames are those of `alone` of the setting and the history
pub record BssView : Type 0 where
  pub setting : Setting
  pub history : List Event
  pub waiting : List (List ℕ)
  pub has_slot : Bool

-- the network of a state
abbrev pub network_of : BssView → Network
network_of s = alone s.setting s.history

-- the frames that an event adds to those that a network sent
abbrev pub sent_by : Setting → List Event → Event → List (List ℕ)
sent_by s es e = drop (length (alone s es).air) (alone s (es ++ e ∷ [])).air

-- the frames that an event adds to those that a network put on its wire
abbrev pub wired_by : Setting → List Event → Event → List (List ℕ)
wired_by s es e = drop (length (alone s es).wire) (alone s (es ++ e ∷ [])).wire

-- a bounded history, the network that it makes but for the frames that were sent, and those that were put on the wire
pub record IsAfterHistory (history : List Event) (n : NetworkState) (wire : List (List ℕ)) : Type 0 where
  pub bounded : length history ≤ n.setting.network.max_events
  pub sound : network_fault n.setting.network ≡ None
  pub events : n.events ≡ length history
  pub network : n.network ≡ unsent (alone n.setting history)
  pub wired : wire ≡ (alone n.setting history).wire

-- a network that took no event
abbrev pub opened : ℕ → ℕ → NetConfig → BssView
opened channel interval n = record {
  setting = record { channel = channel; interval = interval; network = n };
  history = [];
  waiting = [];
  has_slot = false;
}

-- the section of a network that ends, with these frames on the air
abbrev pub section_with : List (List ℕ) → BssView → Section
section_with air s = record {
  config = s.setting.network;
  events = s.history;
  table = table_of (network_of s);
  counts = counts_of (length s.history) (network_of s);
  air = air;
  wire = (network_of s).wire;
}
