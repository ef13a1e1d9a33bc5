-- A partial line, and the octets that end it.
use Rattle.std.specs.Prelude.{ℕ, List, ◌++◌, Option, Some, None}
use Rattle.std.specs.Str.Lines.{strip_carriage_return}
use Rattle.text_io.specs.Texts.{LacksLineFeed}
use Rattle.live_rules.specs.TextLines.{TextLine, Octets, TooLong, line_with}

-- a line that ends with these octets and an LF
abbrev pub ended_with : TextLine → List ℕ → TextLine
ended_with (Octets octets) end = line_with (strip_carriage_return (octets ++ end))
ended_with TooLong end = TooLong

-- a line that ends with the text
abbrev pub whole_with : TextLine → TextLine
whole_with (Octets octets) = line_with octets
whole_with TooLong = TooLong

-- what came of it has no LF
abbrev pub IsUnended : TextLine → Type 0
IsUnended (Octets octets) = LacksLineFeed octets
IsUnended TooLong = Unit {0}

-- a line that was handed on, where it is not too long
abbrev pub line_in : Option (List ℕ) → TextLine
line_in (Some octets) = Octets octets
line_in None = TooLong
