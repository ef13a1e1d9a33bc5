-- Frames whose octets stand one after another.
use Rattle.std.specs.Prelude.{ℕ, List, [], ◌∷◌, take, drop}

-- octets cut into frames of these lengths, the first of them first
abbrev pub cut_by : (lengths octets : List ℕ) → List (List ℕ)
cut_by [] octets = []
cut_by (len ∷ lengths) octets = take len octets ∷ cut_by lengths (drop len octets)
