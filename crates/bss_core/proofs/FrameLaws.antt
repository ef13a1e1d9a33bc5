-- What the crates below promise of frames: those of one network among those of several, and those that one sends.
use Rattle.std.proofs.Common.{◌≡◌, ℕ, List, [], ◌∷◌, ◌++◌}
use Rattle.network.specs.Network.{alone}
use Rattle.network.specs.BssView.{sent_by}
use Rattle.ap_config.specs.declared.setting.Setting.{Setting}
use Rattle.events.specs.Items.{items_of}
use Rattle.events.specs.declared.event.Event.{Event}
use Rattle.events.specs.declared.air_item.AirItem.{AirItem}

pub record FrameLaws : Type 0 where
  pub append : (place : ℕ) (xs ys : List AirItem) → items_of place (xs ++ ys) ≡ items_of place xs ++ items_of place ys
  pub same : (place : ℕ) (items : List AirItem) (octets : List ℕ) → items_of place (items ++ (record { place = place; octets = octets }) ∷ []) ≡ items_of place items ++ octets ∷ []
  pub other : (place other : ℕ) (items : List AirItem) (octets : List ℕ) → (place ≡ other → ⊥) → items_of place (items ++ (record { place = other; octets = octets }) ∷ []) ≡ items_of place items
  pub sent : (s : Setting) (es : List Event) (e : Event) → (alone s (es ++ e ∷ [])).air ≡ (alone s es).air ++ sent_by s es e
