-- Frames of several networks in one list (profile).
use Rattle.std.specs.Prelude.{ℕ, ◌==◌, List, map, filter}
use Rattle.events.specs.declared.air_item.AirItem.{AirItem}

-- its own frames among items
abbrev pub items_of : ℕ → List AirItem → List (List ℕ)
items_of place items = map (λ item. item.octets) (filter (λ item. item.place == place) items)
