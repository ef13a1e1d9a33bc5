-- Which caller or source gave which event of the networks' histories (profile).
use Rattle.std.specs.Prelude.{ℕ, ◌≡◌, ◌<◌, ◌==◌, All, List, [], ◌∷◌, length, map, slice_index_or, if◌then◌else◌}
use Rattle.events.specs.declared.event.Event.{Event}
use Rattle.events.specs.declared.section.Section.{Section}

-- the events of each network, in order of place
abbrev pub histories_of : List Section → List (List Event)
histories_of sections = map (λ s. s.events) sections

-- what is dealt to caller i: those of the items, in order, at whose places the list of callers has i
abbrev pub dealt : {A : Type 0} → List ℕ → List A → ℕ → List A
dealt [] items i = []
dealt (giver ∷ givers) [] i = []
dealt (giver ∷ givers) (item ∷ items) i =
    if giver == i then item ∷ dealt givers items i else dealt givers items i

-- each event of each network has a giver, who is one of this number of callers
pub record AreGivers (callers : ℕ) (histories : List (List Event)) (givers : List (List ℕ)) : Type 0 where
  pub networks : length givers ≡ length histories
  pub events : (place : ℕ) → length (slice_index_or givers place []) ≡ length (slice_index_or histories place [])
  pub known : (place : ℕ) → All (λ giver. giver < callers) (slice_index_or givers place [])
