-- The lines of a text, and its parts where its first line is known.
use Rattle.std.proofs.Common.{◌≡◌, ℕ, ◌+◌, Bool, true, false, cond, List, [], ◌∷◌, ◌++◌, suc}
use Rattle.std.proofs.Common.{refl, arith}
use Rattle.std.proofs.Math.Numerals.{one-add}
use Rattle.std.proofs.lemmas.List.Splits.{join_with_byte-slice_split}
use Rattle.std.specs.List.{list_any, position_or_len, before_first, after_first, flat_map, join_with_byte}
use Rattle.text_io.specs.Texts.{LacksLineFeed, cut, ended}
use Rattle.replay.specs.Joined.{is_separator, joined_parts, parts_of}
use Rattle.text_io.specs.TextLaws.{cut-ended, cut-last}

-- ---- the parts of lines

-- a text's parts, where these are its lines
abbrev parts_at : List ℕ → List (List ℕ) → List ℕ × List ℕ
parts_at text lines = cond (list_any is_separator lines) (parts_of lines) (text, [])

-- any other first line goes before the first part
parts_at_other : (line rest : List ℕ) (lines : List (List ℕ)) → is_separator line ≡ false
    → parts_at (ended line ++ rest) (line ∷ lines) ≡ (ended line ++ (parts_at rest lines).0, (parts_at rest lines).1)
parts_at_other line rest lines e =
    let next : 1 + position_or_len is_separator lines + 1 ≡ suc (position_or_len is_separator lines + 1) = omega arith in
    rw (e, next, one-add (position_or_len is_separator lines)) (either (list_any is_separator lines))
  where
    either : (b : Bool)
        → ◌≡◌ {A = List ℕ × List ℕ}
        (cond b (ended line ++ flat_map ended (before_first is_separator lines), join_with_byte 10 (after_first is_separator lines)) (ended line ++ rest, []))
        (ended line ++ (cond b (parts_of lines) (rest, [])).0, (cond b (parts_of lines) (rest, [])).1)
    either true = refl
    either false = refl

-- ---- the parts of a text

-- a first line `---` with its LF ends the first part at once
pub joined_parts-separator : (line rest : List ℕ) → LacksLineFeed line → is_separator line ≡ true
    → joined_parts (ended line ++ rest) ≡ ([], rest)
unfolding joined_parts
joined_parts-separator line rest lacks e =
    rw (cut-ended line rest lacks, e, join_with_byte-slice_split 10 rest) refl

-- another first line with its LF goes before the first part
pub joined_parts-other : (line rest : List ℕ) → LacksLineFeed line → is_separator line ≡ false
    → joined_parts (ended line ++ rest) ≡ (ended line ++ (joined_parts rest).0, (joined_parts rest).1)
unfolding joined_parts
joined_parts-other line rest lacks e = rw (cut-ended line rest lacks) (parts_at_other line rest (cut rest) e)

-- a text that is `---`
pub joined_parts-last_separator : (line : List ℕ) → LacksLineFeed line → is_separator line ≡ true
    → joined_parts line ≡ ([], [])
unfolding joined_parts
joined_parts-last_separator line lacks e = rw (cut-last line lacks, e) refl

-- a text that is another line
pub joined_parts-last_other : (line : List ℕ) → LacksLineFeed line → is_separator line ≡ false
    → joined_parts line ≡ (line, [])
unfolding joined_parts
joined_parts-last_other line lacks e = rw (cut-last line lacks, e) refl
