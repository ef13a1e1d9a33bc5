-- A partial line, and more octets of it.
use Rattle.std.proofs.Common.{◌≡◌, ℕ, ◌+◌, ◌<◌, ◌≤◌, List, [], ◌∷◌, ◌++◌, length, map}
use Rattle.std.proofs.Common.{Bool, true, false, refl, sym, ap, subst, ◌∙◌, arith, append_assoc, length-append}
use Rattle.std.specs.Prelude.{nat_lt, if◌then◌else◌}
use Rattle.std.proofs.lemmas.Bool.{ltb-true, lt-ltb}
use Rattle.std.proofs.lemmas.List.Elements.{All-append}
use Rattle.text_io.specs.Texts.{LacksLineFeed, ended}
use Rattle.trace.specs.LineLaws.{whole_lines_line, unfinished_line_line, whole_lines_none, unfinished_line_none}
use Rattle.trace.specs.Pieces.{whole_lines}
use Rattle.live.specs.PartialLine.{ended_with, IsUnended}
use Rattle.live_rules.specs.TextLines.{TextLine, Octets, TooLong, max_line, line_with, partial_with, partial_in, lines_in}
use Rattle.live_rules.specs.TextLines.{with_first_too_long, unless_ended, partial_after}

pub lacks-both : (some others : List ℕ) → LacksLineFeed some → LacksLineFeed others → LacksLineFeed (some ++ others)
lacks-both some others h k = All-append (λ octet. octet ≡ 10 → ⊥) some others h k

-- ---- octets without LF

pub long-on : (octets : List ℕ) → LacksLineFeed octets → partial_after TooLong octets ≡ TooLong
long-on octets lacks = ap (λ ls. unless_ended (map line_with ls) (partial_in octets)) (whole_lines_none octets lacks)

partial-with : (some octets : List ℕ) → LacksLineFeed some → LacksLineFeed octets
    → partial_after (Octets some) octets ≡ partial_with (some ++ octets)
partial-with some octets h k = ap partial_with (unfinished_line_none (some ++ octets) (lacks-both some octets h k))

pub partial-over : (some octets : List ℕ) → LacksLineFeed some → LacksLineFeed octets
    → max_line + 1 < length some + length octets → partial_after (Octets some) octets ≡ TooLong
partial-over some octets h k many =
    let over : max_line + 1 < length (some ++ octets) = omega (arith, length-append some octets) in
    partial-with some octets h k ∙ rw (lt-ltb (max_line + 1) (length (some ++ octets)) over) refl

pub partial-on : (some octets : List ℕ) → LacksLineFeed some → LacksLineFeed octets
    → length some + length octets ≤ max_line + 1 → partial_after (Octets some) octets ≡ Octets (some ++ octets)
partial-on some octets h k few =
    partial-with some octets h k ∙ by (nat_lt (max_line + 1) (length (some ++ octets))) refl
  where
    by : (b : Bool) → nat_lt (max_line + 1) (length (some ++ octets)) ≡ b → partial_with (some ++ octets) ≡ Octets (some ++ octets)
    by true is =
        let over : max_line + 1 < length (some ++ octets) = ltb-true (max_line + 1) (length (some ++ octets)) is in
        absurd (omega (arith, length-append some octets))
    by false is = rw is refl

-- ---- a piece with an LF: a line ends, and the next begins

no-octet : LacksLineFeed []
no-octet k d within = absurd (omega arith)

pub first-line : (partial : TextLine) (end later : List ℕ) → IsUnended partial → LacksLineFeed end
    → lines_in partial (ended end ++ later) ≡ ended_with partial end ∷ lines_in (Octets []) later
first-line (Octets octets) end later begun lacks =
    ap (λ (t : List ℕ). map line_with (whole_lines t)) (sym (append_assoc octets (ended end) later))
    ∙ ap (map line_with) (whole_lines_line octets end later begun lacks)
first-line TooLong end later begun lacks =
    ap (λ ls. with_first_too_long (map line_with ls)) (whole_lines_line [] end later no-octet lacks)

pub first-partial : (partial : TextLine) (end later : List ℕ) → IsUnended partial → LacksLineFeed end
    → partial_after partial (ended end ++ later) ≡ partial_after (Octets []) later
first-partial (Octets octets) end later begun lacks =
    ap partial_in (sym (append_assoc octets (ended end) later))
    ∙ ap partial_with (unfinished_line_line octets end later begun lacks)
first-partial TooLong end later begun lacks =
    ap (λ ls. unless_ended (map line_with ls) (partial_in (ended end ++ later))) (whole_lines_line [] end later no-octet lacks)
    ∙ ap partial_with (unfinished_line_line [] end later no-octet lacks)

-- none ends where there is no LF
pub no-line : (partial : TextLine) (piece : List ℕ) → IsUnended partial → LacksLineFeed piece → lines_in partial piece ≡ []
no-line (Octets octets) piece lacks none =
    ap (map line_with) (whole_lines_none (octets ++ piece) (lacks-both octets piece lacks none))
no-line TooLong piece lacks none = ap (λ ls. with_first_too_long (map line_with ls)) (whole_lines_none piece none)

-- ---- as the code keeps it

abbrev pub kept : Bool → List ℕ → TextLine
kept too_long octets = if too_long then TooLong else Octets octets

pub add-long : (too_long : Bool) (some octets : List ℕ) (partial : TextLine) → kept too_long some ≡ partial
    → too_long ≡ true → LacksLineFeed octets → partial ≡ partial_after partial octets
add-long too_long some octets partial view is lacks =
    let here : partial ≡ TooLong = sym view ∙ ap (λ b. kept b some) is in
    here ∙ sym (long-on octets lacks) ∙ ap (λ (b : TextLine). partial_after b octets) (sym here)

kept-octets : (too_long : Bool) (some : List ℕ) (partial : TextLine) → kept too_long some ≡ partial → too_long ≡ false
    → Octets some ≡ partial
kept-octets too_long some partial view is = sym (ap (λ b. kept b some) is) ∙ view

pub add-over : (too_long : Bool) (some octets : List ℕ) (partial : TextLine) → kept too_long some ≡ partial
    → too_long ≡ false → LacksLineFeed some → LacksLineFeed octets → max_line + 1 < length some + length octets
    → TooLong ≡ partial_after partial octets
add-over too_long some octets partial view is h k many =
    sym (partial-over some octets h k many)
    ∙ ap (λ (b : TextLine). partial_after b octets) (kept-octets too_long some partial view is)

pub add-on : (too_long : Bool) (some octets new : List ℕ) (partial : TextLine) → kept too_long some ≡ partial
    → too_long ≡ false → LacksLineFeed some → LacksLineFeed octets → length some + length octets ≤ max_line + 1
    → new ≡ some ++ octets → kept too_long new ≡ partial_after partial octets
add-on too_long some octets new partial view is h k few grown =
    ap (λ b. kept b new) is ∙ ap (λ (xs : List ℕ). Octets xs) grown ∙ sym (partial-on some octets h k few)
    ∙ ap (λ (b : TextLine). partial_after b octets) (kept-octets too_long some partial view is)

pub kept-unended : (too_long : Bool) (octets : List ℕ) (partial : TextLine) → kept too_long octets ≡ partial
    → LacksLineFeed octets → IsUnended partial
kept-unended too_long octets partial view lacks = subst IsUnended view (by too_long)
  where
    by : (b : Bool) → IsUnended (kept b octets)
    by true = tt
    by false = lacks
