-- The frames of one network among those of several.
use Rattle.std.proofs.Common.{◌≡◌, ℕ, List, [], ◌∷◌, ◌++◌, filter, map, refl, sym, ap, ◌∙◌}
use Rattle.std.proofs.lemmas.Bool.{eq-eqb, ne_eqb}
use Rattle.std.proofs.lemmas.List.{append-nil, map-append}
use Rattle.std.proofs.lemmas.List.Elements.{filter-append}
use Rattle.events.specs.Items.{items_of}
use Rattle.events.specs.declared.air_item.AirItem.{AirItem}

-- ---- the items of a network

pub items_of-append : (place : ℕ) (xs ys : List AirItem) → items_of place (xs ++ ys) ≡ items_of place xs ++ items_of place ys
items_of-append place xs ys =
    ap (map (λ (item : AirItem). item.octets)) (filter-append _ xs ys)
    ∙ map-append (λ (item : AirItem). item.octets) (filter _ xs) (filter _ ys)

-- one item more of the network, and of another
pub items_of-same : (place : ℕ) (items : List AirItem) (octets : List ℕ) → items_of place (items ++ (record { place = place; octets = octets }) ∷ []) ≡ items_of place items ++ octets ∷ []
items_of-same place items octets =
    items_of-append place items _ ∙ ap (λ (fs : List (List ℕ)). items_of place items ++ fs) one
  where
    one : items_of place ((record { place = place; octets = octets }) ∷ []) ≡ octets ∷ []
    one = rw (eq-eqb place place refl) refl

pub items_of-other : (place other : ℕ) (items : List AirItem) (octets : List ℕ) → (place ≡ other → ⊥) → items_of place (items ++ (record { place = other; octets = octets }) ∷ []) ≡ items_of place items
items_of-other place other items octets ne =
    items_of-append place items _ ∙ ap (λ (fs : List (List ℕ)). items_of place items ++ fs) none
    ∙ append-nil (items_of place items)
  where
    none : items_of place ((record { place = other; octets = octets }) ∷ []) ≡ []
    none = rw (ne_eqb other place (λ e. ne (sym e))) refl
