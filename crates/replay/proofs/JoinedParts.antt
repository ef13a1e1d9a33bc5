-- That `joined_parts` stand round a line `---`, or that there is none.
use Rattle.std.proofs.Common.{◌≡◌, ◌≢◌, ℕ, ◌<◌, Bool, true, false, cond, eqb, List, [], ◌∷◌, ◌++◌, length, get_or, refl}
use Rattle.std.proofs.Common.{ap, sym, ◌∙◌, append_assoc, get_or-take, arith, inl, inr, ◌⊎◌}
use Rattle.std.proofs.lemmas.Grind.{common_steps}
use Rattle.std.proofs.lemmas.List.Elements.{All-cons, All-head, All-tail, All-nil, All-take}
use Rattle.std.proofs.lemmas.List.Folds.{list_any_at, Any-from_list_any}
use Rattle.std.proofs.lemmas.List.Sums.{split_at_first, passes_at_first, fails_before_first}
use Rattle.std.proofs.lemmas.List.Splits.{join_with_byte-slice_split}
use Rattle.std.proofs.lemmas.Slice.Eq.{bytes_eq-Decides}
use Rattle.std.specs.List.{All, list_any, position_or_len, before_first, after_first, flat_map, join_with_byte}
use Rattle.std.specs.List.{onto_first}
use Rattle.text_io.specs.Texts.{LacksLineFeed, cut, ended}
use Rattle.replay.specs.Joined.{IsJoined, is_separator, joined_parts, parts_of, separator}

-- ---- the lines of a text

-- an octet other than LF, put before the first line
onto_first_lacks : (octet : ℕ) (lines : List (List ℕ)) → octet ≢ 10 → All LacksLineFeed lines
    → All LacksLineFeed (onto_first octet lines)
onto_first_lacks octet [] other lacks =
    All-cons LacksLineFeed (octet ∷ []) [] (All-cons (λ x. x ≢ 10) octet [] other (All-nil (λ x. x ≢ 10)))
    (All-nil LacksLineFeed)
onto_first_lacks octet (line ∷ lines) other lacks =
    All-cons LacksLineFeed (octet ∷ line) lines
    (All-cons (λ x. x ≢ 10) octet line other (All-head LacksLineFeed line lines lacks))
    (All-tail LacksLineFeed line lines lacks)

-- no line of a text has an LF in it
lines_lack_line_feed : (text : List ℕ) → All LacksLineFeed (cut text)
lines_lack_line_feed [] = All-cons LacksLineFeed [] [] (All-nil (λ x. x ≢ 10)) (All-nil LacksLineFeed)
lines_lack_line_feed (octet ∷ text) = either (lines_lack_line_feed text) (eqb octet 10) refl
  where
    either : All LacksLineFeed (cut text) → (b : Bool) → eqb octet 10 ≡ b
        → All LacksLineFeed (cond b ([] ∷ cut text) (onto_first octet (cut text)))
    either rest true e = All-cons LacksLineFeed [] (cut text) (All-nil (λ x. x ≢ 10)) rest
    either rest false e = onto_first_lacks octet (cut text) (grind arith) rest

-- a line before others
ended-append : (first more rest : List ℕ) → first ++ 10 ∷ (more ++ rest) ≡ (ended first ++ more) ++ rest
ended-append first more rest = simp append_assoc

-- lines in a row with LF between each two, where there are some after the first ones
join_with_byte-append : (before : List (List ℕ)) (line : List ℕ) (after : List (List ℕ))
    → join_with_byte 10 (before ++ line ∷ after) ≡ flat_map ended before ++ join_with_byte 10 (line ∷ after)
join_with_byte-append [] line after = refl
join_with_byte-append (first ∷ []) line after = ended-append first [] (join_with_byte 10 (line ∷ after))
join_with_byte-append (first ∷ second ∷ before) line after =
    ap (λ rest. first ++ 10 ∷ rest) (join_with_byte-append (second ∷ before) line after)
    ∙ ended-append first (flat_map ended (second ∷ before)) (join_with_byte 10 (line ∷ after))

-- ---- without a line `---`

is_separator_is : (line : List ℕ) → line ≡ separator → is_separator line ≡ true
is_separator_is line same = (bytes_eq-Decides line separator).1 same

lacks_separator : (lines : List (List ℕ)) → list_any is_separator lines ≡ false → All (λ line. line ≢ separator) lines
lacks_separator lines none k d within same =
    let some : list_any is_separator lines ≡ true =
    list_any_at is_separator lines k d within (is_separator_is (get_or lines k d) same) in cc

-- ---- with one

-- the lines before the first `---` are other ones
others_before : (lines : List (List ℕ)) → All LacksLineFeed lines
    → All (λ line. LacksLineFeed line × (line ≢ separator)) (before_first is_separator lines)
others_before lines lacks k d within =
    let before : k < position_or_len is_separator lines = grind (arith, common_steps) in
    let other : is_separator (get_or lines k d) ≡ false = fails_before_first is_separator lines k d before in
    let line_is : get_or (before_first is_separator lines) k d ≡ get_or lines k d =
    get_or-take (position_or_len is_separator lines) lines k d before in (
      All-take LacksLineFeed (position_or_len is_separator lines) lines lacks k d within,
      λ same. let is : is_separator (get_or lines k d) ≡ true =
          is_separator_is (get_or lines k d) (sym line_is ∙ same) in cc,
    )

-- the first `---` stands within the lines, where there is one
first_within : (lines : List (List ℕ)) → list_any is_separator lines ≡ true
    → position_or_len is_separator lines < length lines
first_within lines some = grind (arith, common_steps, Any-from_list_any, fails_before_first)

-- lines are those before the first `---`, that one, and those after it
split_at_separator : (lines : List (List ℕ)) → list_any is_separator lines ≡ true
    → lines ≡ before_first is_separator lines ++ separator ∷ after_first is_separator lines
split_at_separator lines some =
    let within = first_within lines some in
    let line : List ℕ = get_or lines (position_or_len is_separator lines) [] in
    let line_is : line ≡ separator =
    (bytes_eq-Decides line separator).0 (passes_at_first is_separator lines [] within) in
    split_at_first is_separator lines [] within
    ∙ ap (λ x. before_first is_separator lines ++ x ∷ after_first is_separator lines) line_is

-- what stands after a first part, where a line `---` and these lines do
follows : (text before : List ℕ) (after : List (List ℕ)) → text ≡ before ++ join_with_byte 10 (separator ∷ after)
    → (text ≡ before ++ separator ++ 10 ∷ join_with_byte 10 after)
    ⊎ ((text ≡ before ++ separator) × (join_with_byte 10 after ≡ []))
follows text before [] is = inr (is, refl)
follows text before (line ∷ after) is =
    inl (is ∙ sym (append_assoc before separator (10 ∷ join_with_byte 10 (line ∷ after))))

joined_at_separator : (text : List ℕ) (lines : List (List ℕ)) → text ≡ join_with_byte 10 lines → All LacksLineFeed lines
    → list_any is_separator lines ≡ true
    → IsJoined text (parts_of lines).0 (parts_of lines).1
unfolding IsJoined
joined_at_separator text lines text_is lacks some =
    let before = before_first is_separator lines in
    let after = after_first is_separator lines in
    inl (
      (before, refl, others_before lines lacks),
      follows text (flat_map ended before) after
          (text_is ∙ ap (join_with_byte 10) (split_at_separator lines some) ∙ join_with_byte-append before separator after),
    )

-- ---- either way

pub IsJoined-joined_parts : (text : List ℕ) → IsJoined text (joined_parts text).0 (joined_parts text).1
unfolding IsJoined joined_parts
IsJoined-joined_parts text = either (list_any is_separator (cut text)) refl
  where
    either : (b : Bool) → list_any is_separator (cut text) ≡ b
        → IsJoined text (cond b (parts_of (cut text)) (text, [])).0 (cond b (parts_of (cut text)) (text, [])).1
    either true some =
        joined_at_separator text (cut text) (sym (join_with_byte-slice_split 10 text)) (lines_lack_line_feed text) some
    either false none = inr (lacks_separator (cut text) none, refl, refl)
