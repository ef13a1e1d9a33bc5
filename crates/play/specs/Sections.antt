-- The sections that an access point ends with, and the frames that left (profile).
use Rattle.std.specs.Prelude.{ℕ, ◌<◌, ◌≤◌, ◌≡◌, All, List, length, Some, slice_get}
use Rattle.ap_config.specs.Places.{network_at, setting_at}
use Rattle.events.specs.Items.{items_of}
use Rattle.network.specs.Section.{section_of}
use Rattle.ap_config.specs.declared.config.RadioConfig.{RadioConfig}
use Rattle.events.specs.declared.section.Section.{Section}
use Rattle.events.specs.declared.air_item.AirItem.{AirItem}

-- the section of the network at a place, alone with its own events, which are as many at most as it may take
pub record IsSectionAt (config : RadioConfig) (place : ℕ) (section : Section) : Type 0 where
  pub alone : section ≡ section_of (setting_at config place) section.events
  pub bounded : length section.events ≤ (network_at config place).max_events

-- one for each network, in order of place
abbrev pub AreSections : RadioConfig → List Section → Type 0
AreSections config sections =
    (place : ℕ) (section : Section) → slice_get sections place ≡ Some section → IsSectionAt config place section

-- what left of the network at each place is what its section has on the air
abbrev pub HaveLeft : List Section → List AirItem → Type 0
HaveLeft sections left =
    (place : ℕ) (section : Section) → slice_get sections place ≡ Some section → items_of place left ≡ section.air

-- each item is of a network that is there
abbrev pub ArePlaced : RadioConfig → List AirItem → Type 0
ArePlaced config items = All (λ item. item.place < length config.networks) items
