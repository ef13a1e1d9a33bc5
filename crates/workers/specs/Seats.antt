-- What stands under a network's lock (profile).
use Rattle.std.specs.Prelude.{ℕ, Bool, ◌<◌, ◌≤◌, ◌≡◌, ◌≢◌, [], ◌∷◌, ◌++◌, List, length}
use Rattle.std.specs.FinMap as finite
use Rattle.air_queue.specs.Passes.{QueueName, NetPassView, RadioPassView}
use Rattle.ap_config.specs.Places.{setting_at}
use Rattle.events.specs.Lists.{IsSuffix}
use Rattle.network.specs.BssView.{BssView, network_of}
use Rattle.ap_config.specs.declared.config.RadioConfig.{RadioConfig}
use Rattle.events.specs.declared.event.Event.{Event}
use Rattle.events.specs.declared.air_item.Handed.{Handed}
use Rattle.events.specs.declared.air_item.Handed.TheVariants.{Moved, Nothing, QueueFull}
use Rattle.workers.specs.declared.outcome.Outcome.{Outcome}
use Rattle.workers.specs.declared.outcome.Outcome.TheVariants.{NotHeard, Took, Full, NoMemory}

-- a network, and its right to push to the air queue
pub record SeatView : Type 0 where
  pub network : BssView
  pub pass : NetPassView

-- what was told last of the frames of the network at a place, to whoever has no lock
pub record ToldView : Type 0 where
  pub place : ℕ
  pub waits : Bool

-- The network is the one at the pass's place of the configuration, the pass is one to the queue of this name, and
-- what was pushed and then what waits is all that the network alone sends for its history.
pub record IsSeated (config : RadioConfig) (queue : QueueName) (network : BssView) (pass : NetPassView) : Type 0 where
  pub named : pass.name ≡ queue
  pub placed : pass.place < length config.networks
  pub setting : network.setting ≡ setting_at config pass.place
  pub bounded : length network.history ≤ network.setting.network.max_events
  pub sent : pass.pushed ++ network.waiting ≡ (network_of network).air

-- one of the networks of a configuration, at some moment of its life: what waits is the end of all that it sent
pub record IsNetworkOf (config : RadioConfig) (network : BssView) : Type 0 where
  pub place : ℕ
  pub placed : place < length config.networks
  pub setting : network.setting ≡ setting_at config place
  pub bounded : length network.history ≤ network.setting.network.max_events
  pub waiting : IsSuffix network.waiting (network_of network).air

-- the radio's pass to the queue of this name, which every network of the configuration has a pass to, all of them out
pub record IsRadioOf (config : RadioConfig) (queue : QueueName) (pass : RadioPassView) : Type 0 where
  pub named : pass.name ≡ queue
  pub networks : pass.networks ≡ length config.networks
  pub out : pass.taken_in ≡ finite.empty

-- ---- what becomes of a network

-- an event was offered to it
abbrev pub AnswersEvent : Event → BssView → BssView → Outcome → Type 0
AnswersEvent event old new NotHeard = ⊥
AnswersEvent event old new (Took number) = (number ≡ length old.history) × (new.history ≡ old.history ++ event ∷ [])
AnswersEvent event old new Full = (length old.history ≡ old.setting.network.max_events) × (new ≡ old)
AnswersEvent event old new NoMemory = (length old.history ≢ old.setting.network.max_events) × (new ≡ old)

-- of its frames that wait, the first was pushed, none waited, or the first came back from a full queue
abbrev pub HandsFrame : SeatView → SeatView → Handed → Type 0
HandsFrame old new Moved =
    (octets : List ℕ)
    × (old.network.waiting ≡ octets ∷ new.network.waiting)
    × (new.pass.pushed ≡ old.pass.pushed ++ octets ∷ [])
HandsFrame old new Nothing =
    (old.network.waiting ≡ []) × (new.network.waiting ≡ []) × (new.pass.pushed ≡ old.pass.pushed)
HandsFrame old new QueueFull =
    (old.network.waiting ≢ []) × (new.network.waiting ≡ old.network.waiting) × (new.pass.pushed ≡ old.pass.pushed)
