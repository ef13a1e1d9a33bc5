-- The lines of a text that comes in pieces, cut anywhere (profile).
use Rattle.std.specs.Prelude.{ℕ, ◌+◌, nat_lt, List, [], ◌∷◌, ◌++◌, length, map, if◌then◌else◌}
use Rattle.std.specs.Str.Lines.{lines}
use Rattle.trace.specs.Pieces.{whole_lines, unfinished_line}

-- the most octets of a line, without the LF that ends it and one CR before that
abbrev pub max_line : ℕ
max_line = 65536

-- a line: its octets, or that they are too many
pub data TextLine : Type 0 where
  Octets : List ℕ → TextLine
  TooLong : TextLine

-- these octets, unless there are more than the limit
abbrev pub at_most : ℕ → List ℕ → TextLine
at_most most octets = if nat_lt most (length octets) then TooLong else Octets octets

-- a line of these octets
abbrev pub line_with : List ℕ → TextLine
line_with octets = at_most max_line octets

-- The lines of a text: each ends with LF, less a CR directly before it; and what follows the last LF, if anything does.
abbrev pub lines_of_text : List ℕ → List TextLine
lines_of_text text = map line_with (lines text)

-- ---- a text of which more is to come

-- the lines that have ended
abbrev pub ended_lines : List ℕ → List TextLine
ended_lines text = map line_with (whole_lines text)

-- A partial line of these octets, of which one CR may still be dropped.
abbrev pub partial_with : List ℕ → TextLine
partial_with octets = at_most (max_line + 1) octets

-- the partial line after the last LF of a text
abbrev pub partial_in : List ℕ → TextLine
partial_in text = partial_with (unfinished_line text)

-- the first line is too long, if there is one
abbrev pub with_first_too_long : List TextLine → List TextLine
with_first_too_long [] = []
with_first_too_long (line ∷ more) = TooLong ∷ more

-- the lines that end in a piece, the first of which begins with a partial line
abbrev pub lines_in : TextLine → List ℕ → List TextLine
lines_in (Octets octets) piece = ended_lines (octets ++ piece)
lines_in TooLong piece = with_first_too_long (ended_lines piece)

-- the line stays too long where none of these ended
abbrev pub unless_ended : List TextLine → TextLine → TextLine
unless_ended [] next = TooLong
unless_ended (line ∷ more) next = next

-- the partial line after a piece
abbrev pub partial_after : TextLine → List ℕ → TextLine
partial_after (Octets octets) piece = partial_in (octets ++ piece)
partial_after TooLong piece = unless_ended (ended_lines piece) (partial_in piece)

-- the last line: a partial one, unless it is empty
abbrev pub last_line : TextLine → List TextLine
last_line (Octets []) = []
last_line (Octets (octet ∷ octets)) = line_with (octet ∷ octets) ∷ []
last_line TooLong = TooLong ∷ []
