-- Frames that hostapd sent, beside those that the definitions give.
use Rattle.std.specs.Prelude.{ℕ, ◌+◌, ◌≡◌, Bool, not, ◌==◌, List, [], ◌∷◌, ◌++◌, length, take, drop, filter}
use Rattle.std.specs.List.{list_any, flat_map}
use Rattle.elements.specs.Elements.{Pair, spelled, listed}
use Rattle.recorded_frames.specs.Octets.{AreOctets}

-- the numbers of a list, as a test
abbrev pub these : List ℕ → ℕ → Bool
these numbers n = list_any (λ other. other == n) numbers

-- a string with these octets from a place on, in place of its own
abbrev pub put : ℕ × List ℕ → List ℕ → List ℕ
put field x = take field.0 x ++ field.1 ++ drop (field.0 + length field.1) x

-- a string with each of these fields put
unfoldable pub put_all : List (ℕ × List ℕ) → List ℕ → List ℕ
put_all [] x = x
put_all (field ∷ fields) x = put_all fields (put field x)

-- elements without those that have one of these IDs
abbrev pub without : List ℕ → List Pair → List Pair
without ids es = filter (λ e. not (these ids e.0)) es

-- a frame whose elements begin at a place, without those that have one of these IDs
abbrev pub without_elements : ℕ → List ℕ → List ℕ → List ℕ
without_elements first ids x = take first x ++ flat_map spelled (without ids (listed (drop first x)))

pub record Sent : Type 0 where
  -- the octets of hostapd, with spaces as in a frame that was heard
  pub octets : List ℕ
  -- the frame that the definitions give
  pub defined : List ℕ
  -- what hostapd writes in some fields of it: where each begins, and its octets
  pub fields : List (ℕ × List ℕ)
  -- where the elements begin, or the length where there are none; and the IDs of those that the profile leaves out
  pub first : ℕ
  pub left_out : List ℕ

-- the two are the same octets but for those fields and elements
abbrev pub AgreesBut : Sent → Type 0
AgreesBut s = AreOctets s.octets × (put_all s.fields s.defined ≡ without_elements s.first s.left_out s.octets)
