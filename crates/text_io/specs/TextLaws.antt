-- The first LF of a text, and the lines that it parts.
use Rattle.std.proofs.Common.{◌≡◌, ℕ, ◌<◌, ◌+◌, true, false, None, List, [], ◌∷◌, ◌++◌, length, get_or, take, drop}
use Rattle.std.proofs.Common.{refl, ap, sym, ◌∙◌, append_assoc, get_or-take, take-append-drop, length-take, arith}
use borrow.Author.Tests.{eqb-true}
use Rattle.std.proofs.lemmas.Bool.{ne_eqb}
use Rattle.std.proofs.lemmas.Grind.{common_steps}
use Rattle.std.proofs.lemmas.List.{drop_more}
use Rattle.std.proofs.lemmas.List.Elements.{All-from_get_or}
use Rattle.std.proofs.lemmas.List.Splits.{slice_split_none, slice_split_at}
use Rattle.std.proofs.lemmas.List.Sums.{fails_before_first}
use Rattle.std.specs.List.{All, position}
use Rattle.text_io.specs.Texts.{is_line_feed, LacksLineFeed, ended, cut}

-- ---- where the first LF stands

-- a text is the octets before an LF, that LF, and those after it
pub around_line_feed : (text : List ℕ) (n : ℕ) → n < length text → is_line_feed (get_or text n 0) ≡ true
    → text ≡ ended (take n text) ++ drop (n + 1) text
around_line_feed text n within is =
    sym (take-append-drop n text)
    ∙ ap (λ y. take n text ++ y)
    (drop_more text n 0 within ∙ ap (λ y. y ∷ drop (n + 1) text) (eqb-true (get_or text n 0) 10 is))
    ∙ sym (append_assoc (take n text) (10 ∷ []) (drop (n + 1) text))

-- no LF stands before the first one
pub prefix_lacks : (text : List ℕ) (n : ℕ) → ((k : ℕ) → k < n → is_line_feed (get_or text k 0) ≡ false)
    → LacksLineFeed (take n text)
prefix_lacks text n before = All-from_get_or (λ octet. octet ≡ 10 → ⊥) (take n text) 0
    (λ k small.
    let below : k < n = omega (arith, length-take n text) in
    let other : is_line_feed (get_or (take n text) k 0) ≡ false =
    ap is_line_feed (get_or-take n text k 0 below) ∙ before k below in
    grind arith)

-- where there is none, the text has no LF
pub lacks_from_none : (text : List ℕ) → position is_line_feed text ≡ None → LacksLineFeed text
lacks_from_none text none k d within =
    let other : is_line_feed (get_or text k d) ≡ false =
    fails_before_first is_line_feed text k d (grind (arith, common_steps)) in grind arith

-- ---- the lines of a text

other_octets : (line : List ℕ) → LacksLineFeed line → All (λ octet. is_line_feed octet ≡ false) line
other_octets line lacks k d within = ne_eqb (get_or line k d) 10 (lacks k d within)

-- a line with its LF is the first line
pub cut-ended : (line rest : List ℕ) → LacksLineFeed line → cut (ended line ++ rest) ≡ line ∷ cut rest
cut-ended line rest lacks =
    ap cut (append_assoc line (10 ∷ []) rest) ∙ slice_split_at is_line_feed line 10 rest (other_octets line lacks) refl

-- a text without LF is one line
pub cut-last : (line : List ℕ) → LacksLineFeed line → cut line ≡ line ∷ []
cut-last line lacks = slice_split_none is_line_feed line (other_octets line lacks)
