-- How many items there are, from how many there are of each network.
use Rattle.std.proofs.Common.{◌≡◌, ℕ, zero, suc, ◌+◌, ◌<◌, cond, eqb, List, [], ◌∷◌, length, refl, sym, ap, ◌∙◌, inl, inr, arith}
use Rattle.std.specs.Prelude.{All}
use Rattle.std.proofs.lemmas.Bool.{cases_eq, eq-eqb, ne_eqb}
use Rattle.std.proofs.lemmas.List.Elements.{All-head, All-tail}
use Rattle.events.specs.Items.{items_of}
use Rattle.events.specs.declared.air_item.AirItem.{AirItem}

-- f of each number below n, added up
abbrev total : ℕ → (ℕ → ℕ) → ℕ
total zero f = 0
total (suc n) f = total n f + f n

total-same : (n : ℕ) (f g : ℕ → ℕ) → ((k : ℕ) → k < n → f k ≡ g k) → total n f ≡ total n g
total-same zero f g same = refl
total-same (suc n) f g same =
    let rest : total n f ≡ total n g = total-same n f g (λ k lt. same k (omega arith)) in
    let last : f n ≡ g n = same n (omega arith) in
    omega (arith, rest, last)

total-plus : (n : ℕ) (f g : ℕ → ℕ) → total n (λ k. f k + g k) ≡ total n f + total n g
total-plus zero f g = refl
total-plus (suc n) f g = let h = total-plus n f g in omega (arith, h)

total-none : (n : ℕ) (f : ℕ → ℕ) → ((k : ℕ) → k < n → f k ≡ 0) → total n f ≡ 0
total-none zero f none = refl
total-none (suc n) f none =
    let rest : total n f ≡ 0 = total-none n f (λ k lt. none k (omega arith)) in
    let last : f n ≡ 0 = none n (omega arith) in
    omega (arith, rest, last)

-- 1 at one number and 0 at each other
abbrev mark : ℕ → ℕ → ℕ
mark place k = cond (eqb place k) 1 0

total-mark : (n place : ℕ) → place < n → total n (mark place) ≡ 1
total-mark zero place lt = absurd (omega (arith, lt))
total-mark (suc n) place lt =
    elim (cases_eq place n) [
      | inl e ↦
          let rest : total n (mark place) ≡ 0 = total-none n (mark place) (λ k below. ap (λ b. cond b 1 0) (ne_eqb place k (λ is. absurd (omega (arith, is, e, below))))) in
          let last : mark place n ≡ 1 = ap (λ b. cond b 1 0) (eq-eqb place n e) in
          omega (arith, rest, last)
      | inr ne ↦
          let rest : total n (mark place) ≡ 1 = total-mark n place (omega (arith, lt, ne)) in
          let last : mark place n ≡ 0 = ap (λ b. cond b 1 0) (ne_eqb place n ne) in
          omega (arith, rest, last)
    ]

one_more : (place : ℕ) (item : AirItem) (items : List AirItem) → length (items_of place (item ∷ items)) ≡ mark item.place place + length (items_of place items)
one_more place item items =
    elim (cases_eq item.place place) [
      | inl e ↦ rw (eq-eqb item.place place e) (omega arith)
      | inr ne ↦ rw (ne_eqb item.place place ne) (omega arith)
    ]

-- of items below n, those of each network are all
count-parts : (n : ℕ) (items : List AirItem) → All (λ item. item.place < n) items → total n (λ place. length (items_of place items)) ≡ length items
count-parts n [] below = total-none n (λ place. 0) (λ k lt. refl)
count-parts n (item ∷ items) below =
    let P : AirItem → Type 0 = λ x. x.place < n in
    let each = total-same n (λ place. length (items_of place (item ∷ items))) (λ place. mark item.place place + length (items_of place items)) (λ place lt. one_more place item items) in
    let split = total-plus n (mark item.place) (λ place. length (items_of place items)) in
    let one = total-mark n item.place (All-head P item items below) in
    let rest = count-parts n items (All-tail P item items below) in
    each ∙ split ∙ (omega (arith, one, rest))

-- lists in which each network has the same items have as many
pub same_count : (n : ℕ) (xs ys : List AirItem) → All (λ item. item.place < n) xs → All (λ item. item.place < n) ys → ((place : ℕ) → place < n → items_of place xs ≡ items_of place ys) → length xs ≡ length ys
same_count n xs ys below below' same =
    sym (count-parts n xs below)
    ∙ total-same n (λ place. length (items_of place xs)) (λ place. length (items_of place ys)) (λ place lt. ap length (same place lt))
    ∙ count-parts n ys below'
