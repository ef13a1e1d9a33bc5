-- How the entries of a map are kept in order (profile): each has a slot, and one that left left a hole.
use Rattle.std.specs.Prelude.{ℕ, ◌≡◌, ◌+◌, ◌-◌, ◌<◌, ◌≤◌, nat_lt, nat_eq, List, [], ◌∷◌, Option, Some, None, if◌then◌else◌}
use Rattle.std.specs.Prelude.{length, slice_get, slice_set, map, zero, suc, IfSome}
use Rattle.std.specs.List.{AllByRecursion}
use Rattle.std.specs.Option.{option_map}
use Rattle.std.specs.Map.{lookup}
use Rattle.std.specs.Str.{bytes_eq}
use Rattle.address_map.specs.Entries.{Entries, value_of, AreApart}

abbrev pub Slots : Type 0 → Type 0
Slots V = List (Option (List ℕ × V))

-- the entries, without the holes
abbrev pub entries_in : {V : Type 0} → Slots V → Entries V
entries_in [] = []
entries_in (None ∷ slots) = entries_in slots
entries_in (Some entry ∷ slots) = entry ∷ entries_in slots

-- the slot of an address
abbrev pub slot_of : {V : Type 0} → List ℕ → Slots V → Option ℕ
slot_of addr [] = None
slot_of addr (None ∷ slots) = option_map (λ n. suc n) (slot_of addr slots)
slot_of addr (Some entry ∷ slots) =
    if bytes_eq addr entry.0 then Some 0 else option_map (λ n. suc n) (slot_of addr slots)

-- an address stands in a slot, with this value
pub record IsAt {V : Type 0} (addr : List ℕ) (slots : Slots V) (i : ℕ) (value : V) : Type 0 where
  pub place : slot_of addr slots ≡ Some i
  pub slot : slice_get slots i ≡ Some (Some (addr, value))
  pub known : value_of addr (entries_in slots) ≡ Some value

-- an index has the slot of each address
abbrev pub AreFound : {V : Type 0} → List (List ℕ × ℕ) → Slots V → Type 0
AreFound index slots = (addr : List ℕ) → lookup (bytes_eq addr) index ≡ slot_of addr slots

-- ---- the order of the slots

-- a slot; where there is none of this number it is a hole
abbrev pub slot_at : {V : Type 0} → Slots V → ℕ → Option (List ℕ × V)
slot_at [] i = None
slot_at (slot ∷ slots) zero = slot
slot_at (slot ∷ slots) (suc i) = slot_at slots i

-- the slots of these numbers
abbrev pub listed : {V : Type 0} → (row : List ℕ) → Slots V → Slots V
listed [] slots = []
listed (i ∷ row) slots = slot_at slots i ∷ listed row slots

-- the places of the holes, from this number on
abbrev pub holes_from : {V : Type 0} → ℕ → Slots V → List ℕ
holes_from n [] = []
holes_from n (None ∷ slots) = n ∷ holes_from (suc n) slots
holes_from n (Some entry ∷ slots) = holes_from (suc n) slots

-- the place before which so many stand that count, where these places, the lowest first, don't
abbrev pub past : (places : List ℕ) → ℕ → ℕ
past [] place = place
past (other ∷ places) place = if nat_lt place other then place else past places (suc place)

-- one place more, the lowest first
abbrev pub with_place : ℕ → List ℕ → List ℕ
with_place place [] = place ∷ []
with_place place (other ∷ places) =
    if nat_lt other place then other ∷ with_place place places else place ∷ other ∷ places

-- numbers that rise, from this one on
abbrev pub Rises : ℕ → List ℕ → Type 0
Rises n [] = Unit {0}
Rises n (x ∷ xs) = (n ≤ x) × Rises (suc x) xs

-- the place of a slot in a row
abbrev pub place_in : (row : List ℕ) → ℕ → ℕ
place_in [] i = 0
place_in (other ∷ row) i = if nat_eq other i then 0 else suc (place_in row i)

-- the slots that an index has stand in a row
abbrev pub AreIn : (row : List ℕ) → List (List ℕ × ℕ) → Type 0
AreIn row index = (addr : List ℕ) → IfSome (lookup (bytes_eq addr) index) (λ i. slice_get row (place_in row i) ≡ Some i)

-- an index with the place of each slot in a row in place of the slot
abbrev pub with_places : (row : List ℕ) → List (List ℕ × ℕ) → List (List ℕ × ℕ)
with_places row index = map (λ (e : List ℕ × ℕ). (e.0, place_in row e.1)) index

-- a slot stands last in a row, unless none does
abbrev pub EndsWith : ℕ → (row : List ℕ) → Type 0
EndsWith i row = 0 < length row → slice_get row (length row - 1) ≡ Some i

-- a row of slots has each that has an entry, in their order, and others that are holes, of which these are the places
pub record IsListed {V : Type 0} (row gone : List ℕ) (slots : Slots V) : Type 0 where
  pub within : AllByRecursion (λ i. i < length slots) row
  pub entries : entries_in (listed row slots) ≡ entries_in slots
  pub places : gone ≡ holes_from 0 (listed row slots)

-- so it does, unless it has no slot at all
abbrev pub MayList : {V : Type 0} → (row gone : List ℕ) → Slots V → Type 0
MayList row gone slots = 0 < length row → IsListed row gone slots

-- a slot had an entry, and is a hole now
pub record TakesOut {V : Type 0} (i : ℕ) (before after : Slots V) : Type 0 where
  pub entry : List ℕ × V
  pub apart : AreApart (entries_in before)
  pub slot : slice_get before i ≡ Some (Some entry)
  pub hole : after ≡ slice_set before i None

-- what is kept beside the slots: where each address stands, how many slots are holes, and the order of the slots
pub record IsAddressMap {V : Type 0} (index : List (List ℕ × ℕ)) (slots : Slots V) (holes : ℕ) (row gone : List ℕ) : Type 0 where
  pub apart : AreApart (entries_in slots)
  pub found : AreFound index slots
  pub rest : length (entries_in slots) + holes ≡ length slots
  pub listed : MayList row gone slots
