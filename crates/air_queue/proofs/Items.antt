-- Items of one network among items.
use Rattle.std.proofs.Common.{◌≡◌, ℕ, ◌+◌, ◌<◌, List, [], ◌∷◌, ◌++◌, filter, map, refl, ap, ◌∙◌, arith}
use Rattle.std.specs.Prelude.{All}
use Rattle.std.proofs.lemmas.Bool.{eq-eqb, ne_eqb}
use Rattle.std.proofs.lemmas.List.{append-nil, map-append}
use Rattle.std.proofs.lemmas.List.Elements.{All-head, All-tail, All-weaker, filter-append}
use Rattle.events.specs.Items.{items_of}
use Rattle.events.specs.declared.air_item.AirItem.{AirItem}

items_of-append : (place : ℕ) (xs ys : List AirItem) → items_of place (xs ++ ys) ≡ items_of place xs ++ items_of place ys
items_of-append place xs ys =
    ap (map (λ (item : AirItem). item.octets)) (filter-append _ xs ys)
    ∙ map-append (λ (item : AirItem). item.octets) (filter _ xs) (filter _ ys)

-- one item more of the network, and of another
pub items_of-here : (place : ℕ) (items : List AirItem) (item : AirItem) → item.place ≡ place → items_of place (items ++ item ∷ []) ≡ items_of place items ++ item.octets ∷ []
items_of-here place items item here =
    items_of-append place items _ ∙ ap (λ (fs : List (List ℕ)). items_of place items ++ fs) one
  where
    one : items_of place (item ∷ []) ≡ item.octets ∷ []
    one = rw (eq-eqb item.place place here) refl

pub items_of-other : (place : ℕ) (items : List AirItem) (item : AirItem) → (item.place ≡ place → ⊥) → items_of place (items ++ item ∷ []) ≡ items_of place items
items_of-other place items item ne =
    items_of-append place items _ ∙ ap (λ (fs : List (List ℕ)). items_of place items ++ fs) none
    ∙ append-nil (items_of place items)
  where
    none : items_of place (item ∷ []) ≡ []
    none = rw (ne_eqb item.place place ne) refl

-- there is nothing of a place above all
pub items_of-none : (place : ℕ) (items : List AirItem) → All (λ item. item.place < place) items → items_of place items ≡ []
items_of-none place [] below = refl
items_of-none place (item ∷ items) below =
    let ne : item.place ≡ place → ⊥ = λ e. let lt = All-head (λ (x : AirItem). x.place < place) item items below in absurd (omega (arith, e, lt)) in
    rw (ne_eqb item.place place ne) (items_of-none place items (All-tail (λ (x : AirItem). x.place < place) item items below))

pub below_more : (networks : ℕ) (items : List AirItem) → All (λ item. item.place < networks) items → All (λ item. item.place < networks + 1) items
below_more networks items below =
    All-weaker (λ (x : AirItem). x.place < networks) (λ (x : AirItem). x.place < networks + 1) (λ x lt. omega arith) items below
