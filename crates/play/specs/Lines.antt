-- Lines of sources (profile).
use Rattle.std.specs.Prelude.{ℕ, ◌≡◌, ◌<◌, ◌≤◌, ◌+◌, List, [], length, slice_index_or}
use Rattle.events.specs.declared.line.Line.{Line}
use Rattle.events.specs.declared.line.Line.TheVariants as line

-- the line of this number
abbrev pub line_at : List Line → ℕ → Line
line_at lines n = slice_index_or lines n line.Tick

-- the lines of the source of this number: none where there is no such source
abbrev pub lines_of : List (List Line) → ℕ → List Line
lines_of sources i = slice_index_or sources i []

-- these lines stand, in order, among a source's lines, the first of them at this number
pub record StandFrom (lines : List Line) (first : ℕ) (some : List Line) : Type 0 where
  pub within : first + length some ≤ length lines
  pub same : (k : ℕ) → k < length some → line_at some k ≡ line_at lines (first + k)
