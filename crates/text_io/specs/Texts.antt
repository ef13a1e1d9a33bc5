-- The lines of a text: each ends with LF, the last with LF or with the text.
use Rattle.std.specs.Prelude.{◌≢◌, ℕ, ◌==◌, Bool, List, [], ◌∷◌, ◌++◌, All}
use Rattle.std.specs.List.{slice_split}

abbrev pub is_line_feed : ℕ → Bool
is_line_feed octet = octet == 10

-- no octet of the line is LF
abbrev pub LacksLineFeed : List ℕ → Type 0
LacksLineFeed line = All (λ octet. octet ≢ 10) line

-- a line and the LF that ends it
abbrev pub ended : List ℕ → List ℕ
ended line = line ++ 10 ∷ []

-- the lines of a text, cut at each LF: what follows the last LF is the last line, also where it is empty
abbrev pub cut : List ℕ → List (List ℕ)
cut text = slice_split is_line_feed text
