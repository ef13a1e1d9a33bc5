-- A run with threads as the steps of a radio (profile).
use Rattle.std.specs.Prelude.{ℕ, ◌+◌, ◌≡◌, List, [], ◌∷◌, ◌++◌, map}
use Rattle.ap_config.specs.declared.config.RadioConfig.{RadioConfig}
use Rattle.bss_core.specs.Radio.{after_steps, sections_after}
use Rattle.bss_core.specs.declared.radio.step.Step.{Step}
use Rattle.bss_core.specs.declared.radio.step.Step.TheVariants.{Take, Hand, Leave}
use Rattle.events.specs.declared.air_item.AirItem.{AirItem}
use Rattle.events.specs.declared.section.Section.{Section}

-- each network, from a place on, takes the events of its section
abbrev pub takes_from : ℕ → List Section → List Step
takes_from place [] = []
takes_from place (section ∷ sections) = map (Take place) section.events ++ takes_from (place + 1) sections

-- each frame is handed to the queue, and leaves
abbrev pub leaves_of : List AirItem → List Step
leaves_of [] = []
leaves_of (item ∷ items) = Hand item.place ∷ Leave ∷ leaves_of items

-- first all that was taken, then each frame that left
abbrev pub steps_of : List Section → List AirItem → List Step
steps_of sections left = takes_from 0 sections ++ leaves_of left

-- These steps of a radio give these sections; these frames leave, and none is queued afterwards.
pub record AreGivenBy (config : RadioConfig) (steps : List Step) (sections : List Section) (left : List AirItem)
    : Type 0 where
  pub same_sections : sections ≡ sections_after config steps
  pub same_left : left ≡ (after_steps config steps).left
  pub none_queued : (after_steps config steps).queue ≡ []
