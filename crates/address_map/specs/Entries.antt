-- The addresses of a map with their values, in the order in which they came (profile).
use Rattle.std.specs.Prelude.{ℕ, ◌≡◌, List, [], ◌∷◌, Option, None}
use Rattle.std.specs.Map.{lookup, remove_entry}
use Rattle.std.specs.Str.{bytes_eq}
use Rattle.indexmap.specs.IndexMap.{insert_entry}

-- each address with its value
abbrev pub Entries : Type 0 → Type 0
Entries V = List (List ℕ × V)

-- the value of an address; one that is not there has none
abbrev pub value_of : {V : Type 0} → List ℕ → Entries V → Option V
value_of addr entries = lookup (bytes_eq addr) entries

-- with this value: an address that is there keeps its place, and another one goes last
abbrev pub with_entry : {V : Type 0} → List ℕ → V → Entries V → Entries V
with_entry addr value entries = insert_entry bytes_eq entries addr value

-- no address stands twice
abbrev pub AreApart : {V : Type 0} → Entries V → Type 0
AreApart [] = Unit {0}
AreApart (entry ∷ entries) = (value_of entry.0 entries ≡ None) × AreApart entries

-- so it is where the value of one is set, and where one is taken out
pub record StayApart (V : Type 0) : Type 0 where
  pub set : (addr : List ℕ) (value : V) (entries : Entries V) → AreApart entries
      → AreApart (with_entry addr value entries)
  pub removed : (addr : List ℕ) (entries : Entries V) → AreApart entries
      → AreApart (remove_entry (bytes_eq addr) entries)
