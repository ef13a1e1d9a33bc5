-- What a run of steps keeps, and the sections that it ends with (profile).
use Rattle.std.specs.Prelude.{ℕ, ◌<◌, ◌≡◌, List, ◌++◌, length, map}
use Rattle.std.specs.List.{enumerate_from}
use Rattle.bss_core.specs.Radio.{RadioState, place_at, waiting_at}
use Rattle.events.specs.Items.{items_of}
use Rattle.bss_core.specs.RadioView.{RadioView, view_at}
use Rattle.network.specs.BssView.{BssView, section_with}
use Rattle.events.specs.declared.section.Section.{Section}
use Rattle.events.specs.declared.air_item.AirItem.{AirItem}

-- a radio that runs is at this state, and these items have left it
pub record IsAt (s : RadioState) (r : RadioView) (gone : List AirItem) : Type 0 where
  pub left : gone ≡ s.left
  pub queue : r.queue ≡ s.queue
  pub history :
      (place : ℕ) → place < length r.config.networks → (view_at r place).history ≡ (place_at s place).events
  pub waiting :
      (place : ℕ) → place < length r.config.networks → (view_at r place).waiting ≡ waiting_at r.config s place

-- all frames of the network at a place: those that left, those that are queued, those that wait
abbrev pub frames_of : List AirItem → List AirItem → ℕ → BssView → List (List ℕ)
frames_of left queued place s = items_of place left ++ items_of place queued ++ s.waiting

-- the sections of networks that end, in order of place
abbrev pub sections_with : List AirItem → List AirItem → List BssView → List Section
sections_with left queued networks =
    map (λ n. section_with (frames_of left queued n.0 n.1) n.1) (enumerate_from 0 networks)
