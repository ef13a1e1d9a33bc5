-- What contracts see of a radio that runs (profile).
use Rattle.std.specs.Prelude.{ℕ, ◌<◌, ◌≤◌, ◌≡◌, All, List, [], ◌∷◌, ◌++◌, length, map, slice_set, None}
use Rattle.std.specs.List.{slice_index_or}
use Rattle.ap_config.specs.Configuration.{fault_of}
use Rattle.events.specs.Lists.{IsSuffix}
use Rattle.ap_config.specs.declared.setting.Setting.{Setting}
use Rattle.network.specs.Network.{alone}
use Rattle.ap_config.specs.Places.{setting_in, setting_at}
use Rattle.events.specs.Items.{items_of}
use Rattle.network.specs.BssView.{BssView, sent_by}
use Rattle.ap_config.specs.declared.config.RadioConfig.{RadioConfig}
use Rattle.events.specs.declared.event.Event.{Event}
use Rattle.events.specs.declared.air_item.AirItem.{AirItem}
use Rattle.events.specs.declared.air_item.Handed.{Handed}
use Rattle.events.specs.declared.air_item.Handed.TheVariants.{Moved, Nothing, QueueFull}

-- of one network, the events that it took and the frames that wait; all else is what `alone` gives of its setting and
-- its events
pub record NetworkView : Type 0 where
  pub history : List Event
  pub waiting : List (List ℕ)

-- the radio's configuration, its networks in order of place, and its air queue
pub record RadioView : Type 0 where
  pub config : RadioConfig
  pub networks : List NetworkView
  pub queue : List AirItem

abbrev pub unused : NetworkView
unused = record { history = []; waiting = [] }

abbrev pub view_at : RadioView → ℕ → NetworkView
view_at r place = slice_index_or r.networks place unused

-- ---- of the networks that it runs

-- the setting of each network, in order of place
abbrev pub settings_of : RadioConfig → List Setting
settings_of c = map (setting_in c) c.networks

abbrev pub shown : BssView → NetworkView
shown s = record { history = s.history; waiting = s.waiting }

abbrev pub config_of : ℕ → ℕ → ℕ → List BssView → RadioConfig
config_of channel interval capacity networks = record {
  channel = channel;
  interval = interval;
  queue = capacity;
  networks = map (λ s. s.setting.network) networks;
}

abbrev pub radio_of : ℕ → ℕ → ℕ → List BssView → List AirItem → RadioView
radio_of channel interval capacity networks queue = record {
  config = config_of channel interval capacity networks;
  networks = map shown networks;
  queue = queue;
}

-- ---- what a radio keeps

pub record IsSoundRadio (r : RadioView) : Type 0 where
  pub accepted : fault_of r.config ≡ None
  pub whole : length r.networks ≡ length r.config.networks
  pub bounded : length r.queue ≤ r.config.queue
  pub placed : All (λ item. item.place < length r.config.networks) r.queue
  -- what is queued of a network and then what waits is the end of all that it sent
  pub last :
      (place : ℕ)
      → place < length r.config.networks
      → IsSuffix (items_of place r.queue ++ (view_at r place).waiting)
      (alone (setting_at r.config place) (view_at r place).history).air

-- ---- what its calls make of it

-- no network took an event, and nothing is queued
abbrev pub fresh_radio : RadioConfig → RadioView
fresh_radio c = record { config = c; networks = map (λ _. unused) c.networks; queue = [] }

-- the network at a place took the event, and what it sends waits after the other frames
abbrev pub took : ℕ → Event → RadioView → RadioView
took place event r =
    let n = view_at r place in
    record r {
      networks =
          slice_set r.networks place (record {
            history = n.history ++ event ∷ [];
            waiting = n.waiting ++ sent_by (setting_at r.config place) n.history event;
          });
    }

-- of the frames that wait at a place, the first went to the end of the queue
abbrev pub moved : ℕ → RadioView → List (List ℕ) → RadioView
moved place r [] = r
moved place r (octets ∷ rest) = record r {
  networks = slice_set r.networks place (record (view_at r place) { waiting = rest });
  queue = r.queue ++ (record { place = place; octets = octets }) ∷ [];
}

-- the radio after `hand` gave this answer
abbrev pub after_hand : ℕ → Handed → RadioView → RadioView
after_hand place Moved r = moved place r (view_at r place).waiting
after_hand place Nothing r = r
after_hand place QueueFull r = r
