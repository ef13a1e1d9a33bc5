-- The lines of a text, however it is cut.
use Rattle.std.proofs.Common.{◌≡◌, ℕ, ◌+◌, ◌-◌, ◌<◌, ◌≤◌, Bool, true, false, List, [], ◌∷◌, ◌++◌, length, map, take}
use Rattle.std.proofs.Common.{Option, Some, None, refl, sym, ap, ◌∙◌, arith, length-append, length-take}
use Rattle.std.specs.Prelude.{nat_lt, ◌==◌, slice_index, if◌then◌else◌}
use Rattle.std.specs.List.{position}
use Rattle.std.specs.Str.Lines.{lines, lines_of_parts, strip_carriage_return}
use Rattle.std.proofs.lemmas.Bool.{ltb-true, lt-ltb}
use Rattle.std.proofs.lemmas.List.{map-append, append-nil}
use Rattle.text_io.specs.Texts.{is_line_feed, LacksLineFeed}
use Rattle.trace.specs.Pieces.{all_but_last, whole_lines, unfinished_line}
use Rattle.trace.specs.LineLaws.{whole_lines-append, unfinished_line-append, lines-append, cut-unfinished}
use Rattle.trace.specs.LineLaws.{whole_lines_more, unfinished_line_more, whole_lines_none, unfinished_line_none, lacks_both}
use Rattle.trace.specs.LineLaws.{whole_lines_first, unfinished_line_first}
use Rattle.text_io.specs.TextLaws.{lacks_from_none}
use Rattle.trace.specs.LineLaws.{last_part}
use Rattle.live_rules.specs.TextLines.{TooLong, max_line, at_most, line_with, lines_of_text, ended_lines}
use Rattle.live_rules.specs.TextLines.{partial_with, partial_in, with_first_too_long, lines_in, unless_ended, partial_after, last_line}

-- ---- octets that are too many

pub over : (most : ℕ) (octets : List ℕ) → most < length octets → at_most most octets ≡ TooLong
over most octets more = rw (lt-ltb most (length octets) more) refl

-- one CR less is one octet less
pub stripped : (line : List ℕ) → length line ≤ length (strip_carriage_return line) + 1
stripped line = by (slice_index line (length line - 1) == 13)
  where
    by : (b : Bool) → length line ≤ length (if b then take (length line - 1) line else line) + 1
    by true = omega (arith, length-take (length line - 1) line)
    by false = omega arith

-- ---- a partial line has no LF

unfinished-lacks : (text : List ℕ) → LacksLineFeed (unfinished_line text)
unfinished-lacks text = by (position is_line_feed (unfinished_line text)) refl
  where
    line : List ℕ
    line = unfinished_line text

    none : whole_lines line ≡ []
    none = ap (λ c. map strip_carriage_return (all_but_last c)) (cut-unfinished text)

    by : (p : Option ℕ) → position is_line_feed line ≡ p → LacksLineFeed line
    by None is = lacks_from_none line is
    by (Some n) is = let first = whole_lines_first line n is in absurd (cc (none, first))

-- ---- a line that is too long, and a piece after it

abbrev IsLong : List ℕ → Type 0
IsLong line = max_line + 1 < length line

long-ends : (line piece : List ℕ) → LacksLineFeed line → IsLong line
    → ended_lines (line ++ piece) ≡ with_first_too_long (ended_lines piece)
long-ends line piece lacks long = by (position is_line_feed piece) refl
  where
    by : (p : Option ℕ) → position is_line_feed piece ≡ p
        → ended_lines (line ++ piece) ≡ with_first_too_long (ended_lines piece)
    by None is =
        rw
        (whole_lines_none (line ++ piece) (lacks_both line piece lacks is), whole_lines_none piece (lacks_from_none piece is))
        refl
    by (Some n) is =
        let first : List ℕ = line ++ take n piece in
        let many : max_line < length (strip_carriage_return first) =
        omega (arith, stripped first, length-append line (take n piece), long) in
        rw
        (whole_lines_more line piece n lacks is, over max_line (strip_carriage_return first) many, whole_lines_first piece n is)
        refl

long-begins : (line piece : List ℕ) → LacksLineFeed line → IsLong line
    → partial_in (line ++ piece) ≡ unless_ended (ended_lines piece) (partial_in piece)
long-begins line piece lacks long = by (position is_line_feed piece) refl
  where
    by : (p : Option ℕ) → position is_line_feed piece ≡ p
        → partial_in (line ++ piece) ≡ unless_ended (ended_lines piece) (partial_in piece)
    by None is =
        let many : max_line + 1 < length (line ++ piece) = omega (arith, length-append line piece, long) in
        ap partial_with (unfinished_line_none (line ++ piece) (lacks_both line piece lacks is))
        ∙ over (max_line + 1) (line ++ piece) many
        ∙ rw (whole_lines_none piece (lacks_from_none piece is)) refl
    by (Some n) is =
        ap partial_with (unfinished_line_more line piece n lacks is ∙ sym (unfinished_line_first piece n is))
        ∙ sym (ap (λ ls. unless_ended (map line_with ls) (partial_in piece)) (whole_lines_first piece n is))

-- ---- a text and a piece

pub ended-more : (text piece : List ℕ)
    → ended_lines (text ++ piece) ≡ ended_lines text ++ lines_in (partial_in text) piece
ended-more text piece =
    ap (map line_with) (whole_lines-append text piece)
    ∙ map-append line_with (whole_lines text) (whole_lines (line ++ piece))
    ∙ ap (λ ls. ended_lines text ++ ls) (by (nat_lt (max_line + 1) (length line)) refl)
  where
    line : List ℕ
    line = unfinished_line text

    by : (b : Bool) → nat_lt (max_line + 1) (length line) ≡ b
        → ended_lines (line ++ piece) ≡ lines_in (partial_in text) piece
    by true is = rw is (long-ends line piece (unfinished-lacks text) (ltb-true (max_line + 1) (length line) is))
    by false is = rw is refl

pub partial-more : (text piece : List ℕ) → partial_in (text ++ piece) ≡ partial_after (partial_in text) piece
partial-more text piece =
    ap partial_with (unfinished_line-append text piece) ∙ by (nat_lt (max_line + 1) (length line)) refl
  where
    line : List ℕ
    line = unfinished_line text

    by : (b : Bool) → nat_lt (max_line + 1) (length line) ≡ b → partial_in (line ++ piece) ≡ partial_after (partial_in text) piece
    by true is = rw is (long-begins line piece (unfinished-lacks text) (ltb-true (max_line + 1) (length line) is))
    by false is = rw is refl

-- ---- the end

last-parts : (line : List ℕ) → map line_with (lines_of_parts (line ∷ [])) ≡ last_line (partial_with line)
last-parts [] = refl
last-parts (x ∷ xs) =
    ap (map line_with) (last_part line (omega arith)) ∙ by (nat_lt (max_line + 1) (length line)) refl
  where
    line : List ℕ
    line = x ∷ xs

    by : (b : Bool) → nat_lt (max_line + 1) (length line) ≡ b → line_with line ∷ [] ≡ last_line (partial_with line)
    by true is =
        let many : max_line + 1 < length line = ltb-true (max_line + 1) (length line) is in
        let more : max_line < length line = omega arith in
        rw is (ap (λ l. l ∷ []) (over max_line line more))
    by false is = rw is refl

pub all-lines : (text : List ℕ) → lines_of_text text ≡ ended_lines text ++ last_line (partial_in text)
all-lines text =
    let line : List ℕ = unfinished_line text in
    let all : lines text ≡ whole_lines text ++ lines line =
    ap lines (sym (append-nil text)) ∙ lines-append text []
    ∙ ap (λ (l : List ℕ). whole_lines text ++ lines l) (append-nil line) in
    rw (all, map-append line_with (whole_lines text) (lines line), cut-unfinished text)
    (ap (λ ls. ended_lines text ++ ls) (last-parts line))
