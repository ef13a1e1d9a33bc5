-- How an access point ends (profile).
use Rattle.std.specs.Prelude.{ℕ, ◌+◌, ◌<◌, ◌≤◌, ◌≡◌, ◌++◌, List, [], ◌∷◌, length, map}
use Rattle.std.specs.List.{AllByRecursion, AllZip, enumerate_from}
use Rattle.air_queue.specs.Passes.{QueueName, NetPassView, AllThere}
use Rattle.ap_config.specs.Places.{setting_at}
use Rattle.events.specs.Items.{items_of}
use Rattle.network.specs.BssView.{BssView, network_of, section_with}
use Rattle.ap_config.specs.declared.config.RadioConfig.{RadioConfig}
use Rattle.events.specs.declared.section.Section.{Section}
use Rattle.events.specs.declared.air_item.AirItem.{AirItem}
use Rattle.workers.specs.Seats.{IsSeated}

-- the frames of the network at a place
abbrev pub items_at : ℕ → List (List ℕ) → List AirItem
items_at place frames = map (λ octets. record { place = place; octets = octets }) frames

-- ---- on the way

-- each network with its pass, in order of place
pub record AreSeated (config : RadioConfig) (queue : QueueName) (networks : List BssView) (passes : List NetPassView)
    : Type 0 where
  pub there : AllThere queue (length config.networks) passes
  pub seated : AllZip (IsSeated config queue) networks passes

-- what left of the network at a place and then what waits is all that it sent
pub record IsSent (config : RadioConfig) (left : List AirItem) (place : ℕ) (network : BssView) : Type 0 where
  pub setting : network.setting ≡ setting_at config place
  pub bounded : length network.history ≤ network.setting.network.max_events
  pub placed : place < length config.networks
  pub sent : items_of place left ++ network.waiting ≡ (network_of network).air

abbrev pub AreSent : RadioConfig → List AirItem → List BssView → Type 0
AreSent config left networks = AllByRecursion (λ n. IsSent config left n.0 n.1) (enumerate_from 0 networks)

-- the section of each network, from a place on, where these frames left, and those that wait leave last
abbrev pub sections_from : List AirItem → ℕ → List BssView → List Section
sections_from left place [] = []
sections_from left place (b ∷ bs) =
    section_with (items_of place left ++ b.waiting) b ∷ sections_from left (place + 1) bs

-- the frames that wait of each
abbrev pub waiting_from : ℕ → List BssView → List AirItem
waiting_from place [] = []
waiting_from place (b ∷ bs) = items_at place b.waiting ++ waiting_from (place + 1) bs
