-- What contracts see of a network that runs without its history (profile).
use Rattle.std.specs.Prelude.{ℕ, ◌≡◌, ◌+◌, ◌*◌, ◌<◌, ◌≤◌, ◌^◌, List, [], ◌++◌, None, option_to_list}
use Rattle.ap_config.specs.Configuration.{network_fault}
use Rattle.ap_config.specs.declared.setting.Setting.{Setting}
use Rattle.network.specs.Network.{Network, empty_network, step}
use Rattle.network.specs.Replies.{Outcome, reply_of, before_outcome, after_outcome, IsFitting}
use Rattle.roster.specs.Roster.{RosterState}
use Rattle.network.specs.Sound.{IsSoundNetwork}
use Rattle.events.specs.declared.event.Event.{Event}
use Rattle.events.specs.declared.event.Event.TheVariants as events
use Rattle.network.specs.Sizes.{AreAtMost, most_on_air, most_on_wire}
use Rattle.network.specs.declared.network.Sent.{Sent}
use Rattle.network.specs.declared.reply.Reply.{Reply}
use Rattle.stations.specs.declared.table.Change.TheVariants as changes

-- its setting, how many events it took, and what these made of it but for the frames that it sent
pub record NetworkState : Type 0 where
  pub setting : Setting
  pub events : ℕ
  pub network : Network

-- a network without the frames that it sent
abbrev pub unsent : Network → Network
unsent n = record n { air = []; wire = [] }

-- a network that sent these frames before its own
abbrev pub sent_before : (air wire : List (List ℕ)) → Network → Network
sent_before air wire n = record n { air = air ++ n.air; wire = wire ++ n.wire }

-- one that took no event
abbrev pub new_network : Setting → NetworkState
new_network s = record { setting = s; events = 0; network = empty_network }

-- one that took an event more
abbrev pub took_event : Event → NetworkState → NetworkState
took_event e n = record n { events = n.events + 1; network = unsent (step n.setting n.network e) }

-- what an event makes of a network, and what the network sends for it: one step of the definition, in frames that fit
pub record TakesEvent (e : Event) (old new : NetworkState) (sent : Sent) : Type 0 where
  pub after : new ≡ took_event e old
  pub air : sent.air ≡ (step old.setting old.network e).air
  pub wire : option_to_list sent.wire ≡ (step old.setting old.network e).wire
  pub air_fits : AreAtMost most_on_air sent.air
  pub wire_fits : AreAtMost most_on_wire (option_to_list sent.wire)

-- a beacon interval begins where as many began as are counted
abbrev pub EndsClock : Event → NetworkState → Type 0
EndsClock e n = (e ≡ events.Tick) × (n.network.clock ≡ 4294967295)

-- one that took an event with this outcome
abbrev pub carried_out : Outcome → NetworkState → NetworkState
carried_out o n = record n { events = n.events + 1; network = unsent (after_outcome n.setting o n.network) }

-- a reply with which a beacon interval begins changes no station, and no unit comes with it
abbrev pub IsStill : Reply → Type 0
IsStill r = 0 < r.clock → (r.change ≡ changes.Nothing) × (r.keeping.arriving ≡ None)

-- the outcome can be carried out, and leaves a network within its bounds
pub record MayFollow (n : NetworkState) (o : Outcome) : Type 0 where
  pub still : IsStill (reply_of n.setting o n.network)
  pub fitting : IsFitting n.setting (reply_of n.setting o n.network) (before_outcome n.setting o n.network)
  pub sound : IsSoundNetwork n.setting (n.events + 1) (2 * (n.events + 1))
      (unsent (after_outcome n.setting o n.network))
  pub clock : n.network.clock + (reply_of n.setting o n.network).clock < 2 ^ 32

-- ---- what is kept of it

-- of a network without the frames that it sent, its stations with their units, and its counts
abbrev pub network_with : RosterState → (clock sequence lost unread : ℕ) → Network
network_with r clock sequence lost unread = record {
  stations = r.stations.table;
  kept = r.kept.entries;
  clock = clock;
  sequence = sequence;
  lost = lost;
  unread = unread;
  air = [];
  wire = [];
}

pub record IsNetwork (roster : RosterState) (n : NetworkState) : Type 0 where
  pub accepted : network_fault n.setting.network ≡ None
  pub sound : IsSoundNetwork n.setting n.events (2 * n.events) n.network
  pub most : roster.stations.most ≡ n.setting.network.max_stations
  pub quota : roster.kept.quota ≡ n.setting.network.quota
  pub puts : roster.kept.puts ≤ n.events
  pub clock : n.network.clock < 2 ^ 32
