-- Lines whose octets stand one after another.
use Rattle.std.specs.Prelude.{ℕ, zero, suc, ◌≡◌, ◌≤◌, ◌-◌, List, [], ◌∷◌, take, drop}
use Rattle.events.specs.declared.line.Line.{Line}
use Rattle.events.specs.declared.line.Line.TheVariants as lines
use Rattle.play.specs.declared.mark.Kind.{Kind}
use Rattle.play.specs.declared.mark.Kind.TheVariants as kinds
use Rattle.play.specs.declared.mark.Mark.{Mark}

-- the line of a kind with these octets
abbrev pub line_with : Kind → List ℕ → Line
line_with kinds.Air octets = lines.Air octets
line_with (kinds.Wire place) octets = lines.Wire place octets
line_with kinds.Tick octets = lines.Tick

-- the octets from one place up to another
abbrev pub octets_between : (start end : ℕ) → List ℕ → List ℕ
octets_between start end octets = take (end - start) (drop start octets)

-- the lines of these marks, of which the octets of the first begin at a place
abbrev pub lines_from : (start : ℕ) → List Mark → (octets : List ℕ) → List Line
lines_from start [] octets = []
lines_from start (mark ∷ marks) octets =
    line_with mark.kind (octets_between start mark.end octets) ∷ lines_from mark.end marks octets

-- none of them ends before it begins, and the last ends with all octets, of which there are so many
abbrev pub AreInOrder : (start : ℕ) → List Mark → (count : ℕ) → Type 0
AreInOrder start [] count = start ≡ count
AreInOrder start (mark ∷ marks) count = (start ≤ mark.end) × AreInOrder mark.end marks count

-- where the octets of the line of a number begin: where those of the line before end
abbrev pub start_of : (start : ℕ) → List Mark → (number : ℕ) → ℕ
start_of start marks zero = start
start_of start [] (suc number) = start
start_of start (mark ∷ marks) (suc number) = start_of mark.end marks number
