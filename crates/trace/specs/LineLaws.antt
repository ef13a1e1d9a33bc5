-- The lines of a text that is cut in two.
use Rattle.std.proofs.Common.{◌≡◌, ℕ, ◌+◌, Bool, true, false, List, [], ◌∷◌, ◌++◌, map, take, drop}
use Rattle.std.proofs.Common.{Some, None, refl, ap, sym, subst, ◌∙◌, append_assoc, arith, cond, length, ◌<◌}
use Rattle.std.specs.List.{position, onto_first, slice_split}
use Rattle.std.specs.Str.Lines.{lines, lines_of_parts, strip_carriage_return}
use Rattle.std.proofs.lemmas.Bool.{ne_eqb}
use Rattle.std.proofs.lemmas.List.{map-append}
use Rattle.std.proofs.lemmas.List.Elements.{All-append}
use Rattle.std.proofs.lemmas.List.Quantifiers.{position-Some}
use Rattle.std.proofs.lemmas.List.Splits.{slice_split-cons_yes, slice_split-cons_no}
use Rattle.text_io.specs.Texts.{is_line_feed, LacksLineFeed, cut, ended}
use Rattle.trace.specs.Pieces.{all_but_last, last_of, whole_lines, unfinished_line}
use Rattle.text_io.specs.TextLaws.{around_line_feed, prefix_lacks, lacks_from_none, cut-ended, cut-last}

-- ---- the parts of a text

-- lists that are not none
abbrev pub HasFirst : List (List ℕ) → Type 0
HasFirst parts = (first : List ℕ) × (others : List (List ℕ)) × (parts ≡ first ∷ others)

onto_first-has_first : (x : ℕ) (parts : List (List ℕ)) → HasFirst (onto_first x parts)
onto_first-has_first x [] = (x ∷ [], [], refl)
onto_first-has_first x (part ∷ parts) = (x ∷ part, parts, refl)

pub slice_split-has_first : (p : ℕ → Bool) (xs : List ℕ) → HasFirst (slice_split p xs)
slice_split-has_first p [] = ([], [], refl)
slice_split-has_first p (x ∷ xs) =
    elim (p x) as (λ b. HasFirst (cond b ([] ∷ slice_split p xs) (onto_first x (slice_split p xs)))) [
      | true ↦ ([], slice_split p xs, refl)
      | false ↦ onto_first-has_first x (slice_split p xs)
    ]

-- a last part with something in it is a line
pub last_part : (text : List ℕ) → 0 < length text → lines_of_parts (text ∷ []) ≡ text ∷ []
last_part text h = rw (ne_eqb (length text) 0 (omega arith)) refl

-- ---- a text cut in two

-- what the parts of the first text and of the second make together
abbrev joined : List (List ℕ) → List ℕ → List (List ℕ)
joined parts later = all_but_last parts ++ cut (last_of parts ++ later)

joined-onto : (x : ℕ) (later first : List ℕ) (others : List (List ℕ)) → is_line_feed x ≡ false
    → onto_first x (joined (first ∷ others) later) ≡ joined (onto_first x (first ∷ others)) later
joined-onto x later first [] is = sym (slice_split-cons_no is_line_feed x (first ++ later) is)
joined-onto x later first (other ∷ others) is = refl

-- with one octet before both
joined-cons : (x : ℕ) (xs later : List ℕ) → cut (xs ++ later) ≡ joined (cut xs) later
    → cut (x ∷ xs ++ later) ≡ joined (cut (x ∷ xs)) later
joined-cons x xs later same = split (is_line_feed x) refl
  where
    parts : HasFirst (cut xs)
    parts = slice_split-has_first is_line_feed xs

    below : cut (xs ++ later) ≡ joined (parts.0 ∷ parts.1) later
    below = same ∙ ap (λ c. joined c later) parts.2

    split : (v : Bool) → is_line_feed x ≡ v → cut (x ∷ xs ++ later) ≡ joined (cut (x ∷ xs)) later
    split true is =
        slice_split-cons_yes is_line_feed x (xs ++ later) is
        ∙ ap (λ c. [] ∷ c) below
        ∙ sym
        (ap (λ c. joined c later) (slice_split-cons_yes is_line_feed x xs is ∙ ap (λ c. [] ∷ c) parts.2))
    split false is =
        slice_split-cons_no is_line_feed x (xs ++ later) is
        ∙ ap (onto_first x) below
        ∙ joined-onto x later parts.0 parts.1 is
        ∙ sym
        (ap (λ c. joined c later) (slice_split-cons_no is_line_feed x xs is ∙ ap (onto_first x) parts.2))

pub cut-append : (text later : List ℕ) → cut (text ++ later) ≡ joined (cut text) later
cut-append [] later = refl
cut-append (x ∷ xs) later = joined-cons x xs later (cut-append xs later)

-- ---- parts with others after them

all_but_last-append : (parts : List (List ℕ)) (next : List ℕ) (more : List (List ℕ))
    → all_but_last (parts ++ next ∷ more) ≡ parts ++ all_but_last (next ∷ more)
all_but_last-append [] next more = refl
all_but_last-append (part ∷ []) next more = refl
all_but_last-append (part ∷ other ∷ parts) next more =
    ap (λ ps. part ∷ ps) (all_but_last-append (other ∷ parts) next more)

last_of-append : (parts : List (List ℕ)) (next : List ℕ) (more : List (List ℕ))
    → last_of (parts ++ next ∷ more) ≡ last_of (next ∷ more)
last_of-append [] next more = refl
last_of-append (part ∷ []) next more = refl
last_of-append (part ∷ other ∷ parts) next more = last_of-append (other ∷ parts) next more

lines_of_parts-append : (parts : List (List ℕ)) (next : List ℕ) (more : List (List ℕ))
    → lines_of_parts (parts ++ next ∷ more) ≡ map strip_carriage_return parts ++ lines_of_parts (next ∷ more)
lines_of_parts-append [] next more = refl
lines_of_parts-append (part ∷ []) next more = refl
lines_of_parts-append (part ∷ other ∷ parts) next more =
    ap (λ ls. strip_carriage_return part ∷ ls) (lines_of_parts-append (other ∷ parts) next more)

-- the same of parts that are not none
among : (parts more : List (List ℕ)) → HasFirst more → all_but_last (parts ++ more) ≡ parts ++ all_but_last more
among parts more h = rw h.2 (all_but_last-append parts h.0 h.1)

at_last : (parts more : List (List ℕ)) → HasFirst more → last_of (parts ++ more) ≡ last_of more
at_last parts more h = rw h.2 (last_of-append parts h.0 h.1)

as_lines : (parts more : List (List ℕ)) → HasFirst more
    → lines_of_parts (parts ++ more) ≡ map strip_carriage_return parts ++ lines_of_parts more
as_lines parts more h = rw h.2 (lines_of_parts-append parts h.0 h.1)

-- ---- the lines of both texts

abbrev onward : List ℕ → List ℕ → List ℕ
onward text later = unfinished_line text ++ later

pub whole_lines-append : (text later : List ℕ)
    → whole_lines (text ++ later) ≡ whole_lines text ++ whole_lines (unfinished_line text ++ later)
whole_lines-append text later =
    ap (λ c. map strip_carriage_return (all_but_last c)) (cut-append text later)
    ∙ ap
    (map strip_carriage_return)
    (among (all_but_last (cut text)) (cut (onward text later)) (slice_split-has_first is_line_feed (onward text later)))
    ∙ map-append strip_carriage_return (all_but_last (cut text)) (all_but_last (cut (onward text later)))

pub unfinished_line-append : (text later : List ℕ)
    → unfinished_line (text ++ later) ≡ unfinished_line (unfinished_line text ++ later)
unfinished_line-append text later =
    ap last_of (cut-append text later)
    ∙ at_last (all_but_last (cut text)) (cut (onward text later))
    (slice_split-has_first is_line_feed (onward text later))

pub lines-append : (text later : List ℕ)
    → lines (text ++ later) ≡ whole_lines text ++ lines (unfinished_line text ++ later)
lines-append text later =
    ap lines_of_parts (cut-append text later)
    ∙ as_lines (all_but_last (cut text)) (cut (onward text later))
    (slice_split-has_first is_line_feed (onward text later))

-- ---- the line that is unfinished

last_of-onto : (x : ℕ) (first : List ℕ) (others : List (List ℕ)) → is_line_feed x ≡ false
    → cut (last_of (first ∷ others)) ≡ last_of (first ∷ others) ∷ []
    → cut (last_of (onto_first x (first ∷ others))) ≡ last_of (onto_first x (first ∷ others)) ∷ []
last_of-onto x first [] is below = slice_split-cons_no is_line_feed x first is ∙ ap (onto_first x) below
last_of-onto x first (other ∷ others) is below = below

-- with one octet before the text
unfinished-cons : (x : ℕ) (xs : List ℕ) → cut (unfinished_line xs) ≡ unfinished_line xs ∷ []
    → cut (unfinished_line (x ∷ xs)) ≡ unfinished_line (x ∷ xs) ∷ []
unfinished-cons x xs same = split (is_line_feed x) refl
  where
    parts : HasFirst (cut xs)
    parts = slice_split-has_first is_line_feed xs

    below : cut (last_of (parts.0 ∷ parts.1)) ≡ last_of (parts.0 ∷ parts.1) ∷ []
    below = subst (λ (c : List (List ℕ)). cut (last_of c) ≡ last_of c ∷ []) parts.2 same

    split : (v : Bool) → is_line_feed x ≡ v → cut (unfinished_line (x ∷ xs)) ≡ unfinished_line (x ∷ xs) ∷ []
    split true is =
        subst
        (λ (c : List (List ℕ)). cut (last_of c) ≡ last_of c ∷ [])
        (sym (slice_split-cons_yes is_line_feed x xs is ∙ ap (λ c. [] ∷ c) parts.2))
        below
    split false is =
        subst
        (λ (c : List (List ℕ)). cut (last_of c) ≡ last_of c ∷ [])
        (sym (slice_split-cons_no is_line_feed x xs is ∙ ap (onto_first x) parts.2))
        (last_of-onto x parts.0 parts.1 is below)

-- what is unfinished is one part
pub cut-unfinished : (text : List ℕ) → cut (unfinished_line text) ≡ unfinished_line text ∷ []
cut-unfinished [] = refl
cut-unfinished (x ∷ xs) = unfinished-cons x xs (cut-unfinished xs)

-- ---- a line that ends in a text

-- both parts of it
cut_line : (line end text : List ℕ) → LacksLineFeed line → LacksLineFeed end
    → cut (line ++ ended end ++ text) ≡ (line ++ end) ∷ cut text
cut_line line end text before after =
    ap (λ l. cut (l ++ text)) (sym (append_assoc line end (10 ∷ [])))
    ∙ cut-ended (line ++ end) text (All-append (λ octet. octet ≡ 10 → ⊥) line end before after)

pub whole_lines_line : (line end text : List ℕ) → LacksLineFeed line → LacksLineFeed end
    → whole_lines (line ++ ended end ++ text) ≡ strip_carriage_return (line ++ end) ∷ whole_lines text
whole_lines_line line end text before after =
    ap (λ c. map strip_carriage_return (all_but_last c)) (cut_line line end text before after)
    ∙ ap
    (map strip_carriage_return)
    (among ((line ++ end) ∷ []) (cut text) (slice_split-has_first is_line_feed text))

pub unfinished_line_line : (line end text : List ℕ) → LacksLineFeed line → LacksLineFeed end
    → unfinished_line (line ++ ended end ++ text) ≡ unfinished_line text
unfinished_line_line line end text before after =
    ap last_of (cut_line line end text before after)
    ∙ at_last ((line ++ end) ∷ []) (cut text) (slice_split-has_first is_line_feed text)

-- it ends at the first LF
pub first_line : (text : List ℕ) (n : ℕ) → position is_line_feed text ≡ Some n
    → (text ≡ ended (take n text) ++ drop (n + 1) text) × LacksLineFeed (take n text)
first_line text n e =
    let at = position-Some is_line_feed text n 0 e in
    (around_line_feed text n at.0 at.1, prefix_lacks text n at.2)

pub whole_lines_more : (line text : List ℕ) (n : ℕ) → LacksLineFeed line → position is_line_feed text ≡ Some n
    → whole_lines (line ++ text) ≡ strip_carriage_return (line ++ take n text) ∷ whole_lines (drop (n + 1) text)
whole_lines_more line text n lacks e =
    let first = first_line text n e in
    ap (λ (t : List ℕ). whole_lines (line ++ t)) first.0
    ∙ ap whole_lines (sym (append_assoc line (ended (take n text)) (drop (n + 1) text)))
    ∙ whole_lines_line line (take n text) (drop (n + 1) text) lacks first.1

pub unfinished_line_more : (line text : List ℕ) (n : ℕ) → LacksLineFeed line → position is_line_feed text ≡ Some n
    → unfinished_line (line ++ text) ≡ unfinished_line (drop (n + 1) text)
unfinished_line_more line text n lacks e =
    let first = first_line text n e in
    ap (λ (t : List ℕ). unfinished_line (line ++ t)) first.0
    ∙ ap unfinished_line (sym (append_assoc line (ended (take n text)) (drop (n + 1) text)))
    ∙ unfinished_line_line line (take n text) (drop (n + 1) text) lacks first.1

-- where no LF is, no line ends
pub whole_lines_none : (text : List ℕ) → LacksLineFeed text → whole_lines text ≡ []
whole_lines_none text lacks = ap (λ c. map strip_carriage_return (all_but_last c)) (cut-last text lacks)

pub unfinished_line_none : (text : List ℕ) → LacksLineFeed text → unfinished_line text ≡ text
unfinished_line_none text lacks = ap last_of (cut-last text lacks)

-- two texts without LF
pub lacks_both : (line text : List ℕ) → LacksLineFeed line → position is_line_feed text ≡ None
    → LacksLineFeed (line ++ text)
lacks_both line text lacks e =
    All-append (λ octet. octet ≡ 10 → ⊥) line text lacks (lacks_from_none text e)

-- ---- a text from its beginning

-- the first line of a text, and those after it
no_octet : LacksLineFeed []
no_octet k d within = absurd (omega arith)

pub whole_lines_first : (text : List ℕ) (n : ℕ) → position is_line_feed text ≡ Some n
    → whole_lines text ≡ strip_carriage_return (take n text) ∷ whole_lines (drop (n + 1) text)
whole_lines_first text n e = whole_lines_more [] text n no_octet e

pub unfinished_line_first : (text : List ℕ) (n : ℕ) → position is_line_feed text ≡ Some n
    → unfinished_line text ≡ unfinished_line (drop (n + 1) text)
unfinished_line_first text n e = unfinished_line_more [] text n no_octet e
