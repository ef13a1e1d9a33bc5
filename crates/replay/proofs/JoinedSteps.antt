-- The parts of a text, where the lines before a place are known to be other ones than `---`.
use Rattle.std.proofs.Common.{◌≡◌, subst, ℕ, ◌<◌, ◌≤◌, ◌+◌, ◌-◌, true, false, Some, None, List, [], ◌∷◌, ◌++◌, length}
use Rattle.std.proofs.Common.{take, drop, ap, sym, ◌∙◌, append_assoc, append-nil, take_at, take-append-drop}
use Rattle.std.proofs.Common.{length-take, length-drop, length-append, arith}
use Rattle.std.proofs.lemmas.List.{drop-drop, take_rest}
use Rattle.std.proofs.lemmas.List.Quantifiers.{position-Some}
use Rattle.std.specs.List.{position}
use Rattle.text_io.specs.Texts.{is_line_feed, LacksLineFeed, ended}
use Rattle.replay.specs.Joined.{IsJoined, is_separator, joined_parts}
use Rattle.replay.proofs.JoinedParts.{IsJoined-joined_parts}
use Rattle.text_io.specs.TextLaws.{around_line_feed, prefix_lacks, lacks_from_none}
use Rattle.replay.proofs.JoinedLines.{joined_parts-separator, joined_parts-other, joined_parts-last_separator}
use Rattle.replay.proofs.JoinedLines.{joined_parts-last_other}

-- The octets before start are other lines than `---`: they go before the first part of the rest.
pub record AreOthersTo (text : List ℕ) (start : ℕ) : Type 0 where
  pub within : start ≤ length text
  pub before : (joined_parts text).0 ≡ take start text ++ (joined_parts (drop start text)).0
  pub after : (joined_parts text).1 ≡ (joined_parts (drop start text)).1

-- ---- the line at a place

-- `&text[start..]`
abbrev pub rest_at : List ℕ → ℕ → List ℕ
rest_at text start = take (length text - start) (drop start text)

-- `&text[start..start + len]`
abbrev pub line_at : List ℕ → ℕ → ℕ → List ℕ
line_at text start len = take (start + len - start) (drop start text)

line_at-take : (text : List ℕ) (start len : ℕ) → line_at text start len ≡ take len (drop start text)
line_at-take text start len =
    let same : start + len - start ≡ len = omega arith in ap (λ n. take n (drop start text)) same

after_place : (text : List ℕ) (start len : ℕ) → drop (len + 1) (drop start text) ≡ drop (start + len + 1) text
after_place text start len =
    let same : start + (len + 1) ≡ start + len + 1 = omega arith in drop-drop (len + 1) start text
    ∙ ap (λ n. drop n text) same

-- the octets up to the end of a line are those before it, and the line with its LF
prefix_is : (text : List ℕ) (start len : ℕ) → start + len < length text
    → drop start text ≡ ended (line_at text start len) ++ drop (start + len + 1) text
    → take (start + len + 1) text ≡ take start text ++ ended (line_at text start len)
prefix_is text start len within rest =
    let whole : text ≡ (take start text ++ ended (line_at text start len)) ++ drop (start + len + 1) text =
    sym (take-append-drop start text) ∙ ap (λ y. take start text ++ y) rest
    ∙ sym (append_assoc (take start text) (ended (line_at text start len)) (drop (start + len + 1) text)) in
    let long : length (take start text ++ ended (line_at text start len)) ≡ start + len + 1 =
    omega (
      arith,
      length-append (take start text) (ended (line_at text start len)),
      length-append (line_at text start len) (10 ∷ []),
      length-take start text,
      length-take (start + len - start) (drop start text),
      length-drop start text,
    ) in
    ap (take (start + len + 1)) whole
    ∙ take_at (take start text ++ ended (line_at text start len)) (drop (start + len + 1) text) (start + len + 1) long

-- what the first LF from start on says
record IsLineAt (text : List ℕ) (start len : ℕ) : Type 0 where
  within : start + len < length text
  lacks : LacksLineFeed (line_at text start len)
  rest : drop start text ≡ ended (line_at text start len) ++ drop (start + len + 1) text
  prefix : take (start + len + 1) text ≡ take start text ++ ended (line_at text start len)

line_is : (text : List ℕ) (start len : ℕ) → start ≤ length text → position is_line_feed (drop start text) ≡ Some len
    → IsLineAt text start len
line_is text start len below found =
    let at = position-Some is_line_feed (drop start text) len 0 found in
    let inside : len < length (drop start text) = at.0 in
    let within : start + len < length text = omega (arith, length-drop start text) in
    let line_same : line_at text start len ≡ take len (drop start text) = line_at-take text start len in
    let lacks : LacksLineFeed (line_at text start len) =
    subst LacksLineFeed (sym line_same) (prefix_lacks (drop start text) len at.2) in
    let rest : drop start text ≡ ended (line_at text start len) ++ drop (start + len + 1) text =
    around_line_feed (drop start text) len inside at.1
    ∙ ap (λ line. ended line ++ drop (len + 1) (drop start text)) (sym line_same)
    ∙ ap (λ y. ended (line_at text start len) ++ y) (after_place text start len) in
    record { within = within; lacks = lacks; rest = rest; prefix = prefix_is text start len within rest }

-- ---- a step, and each end

-- another line than `---` at start
pub AreOthersTo-more : (text : List ℕ) (start len : ℕ) → AreOthersTo text start
    → position is_line_feed (rest_at text start) ≡ Some len
    → is_separator (line_at text start len) ≡ false → AreOthersTo text (start + len + 1)
AreOthersTo-more text start len others found is =
    let at = line_is text start len others.within (ap (position is_line_feed) (sym (take_rest text start)) ∙ found) in
    let line : List ℕ = line_at text start len in
    let rest : List ℕ = drop (start + len + 1) text in
    let parts : joined_parts (drop start text) ≡ (ended line ++ (joined_parts rest).0, (joined_parts rest).1) =
    ap joined_parts at.rest ∙ joined_parts-other line rest at.lacks is in
    record {
      within = let inside : start + len < length text = at.within in omega arith;
      before = others.before
          ∙ rw (parts, at.prefix) (sym (append_assoc (take start text) (ended line) (joined_parts rest).0));
      after = others.after ∙ ap (λ p. p.1) parts;
    }

-- what `split_joined` says of the parts
pub record ArePartsOf (text before after : List ℕ) : Type 0 where
  pub before_is : before ≡ (joined_parts text).0
  pub after_is : after ≡ (joined_parts text).1
  pub joined : IsJoined text before after

parts_from : (text before after : List ℕ) → before ≡ (joined_parts text).0 → after ≡ (joined_parts text).1
    → ArePartsOf text before after
parts_from text before after before_is after_is = record {
  before_is = before_is;
  after_is = after_is;
  joined = rw (before_is, after_is) (IsJoined-joined_parts text);
}

-- the first part ends at start
parts_at_start : (text : List ℕ) (start : ℕ) (after : List ℕ) → AreOthersTo text start
    → joined_parts (drop start text) ≡ ([], after) → ArePartsOf text (take start text) after
parts_at_start text start after others is = parts_from text (take start text) after
    (sym (others.before ∙ ap (λ p. take start text ++ p.0) is ∙ append-nil (take start text)))
    (sym (others.after ∙ ap (λ p. p.1) is))

-- a line `---` with its LF at start
pub ArePartsOf-separator : (text : List ℕ) (start len : ℕ) → AreOthersTo text start
    → position is_line_feed (rest_at text start) ≡ Some len
    → is_separator (line_at text start len) ≡ true → ArePartsOf text (take start text) (rest_at text (start + len + 1))
ArePartsOf-separator text start len others found is =
    let at = line_is text start len others.within (ap (position is_line_feed) (sym (take_rest text start)) ∙ found) in
    let parts = joined_parts-separator (line_at text start len) (drop (start + len + 1) text) at.lacks is in
    parts_at_start text start (rest_at text (start + len + 1)) others
    (ap joined_parts at.rest ∙ parts ∙ ap (λ after. ([], after)) (sym (take_rest text (start + len + 1))))

-- `---` from start to the end
pub ArePartsOf-last_separator : (text : List ℕ) (start : ℕ) → AreOthersTo text start
    → position is_line_feed (rest_at text start) ≡ None
    → is_separator (rest_at text start) ≡ true → ArePartsOf text (take start text) []
ArePartsOf-last_separator text start others none is = parts_at_start text start [] others
    (ap joined_parts (sym (take_rest text start)) ∙ joined_parts-last_separator (rest_at text start) (lacks_from_none (rest_at text start) none) is)

-- another line from start to the end
pub ArePartsOf-last_other : (text : List ℕ) (start : ℕ) → AreOthersTo text start
    → position is_line_feed (rest_at text start) ≡ None
    → is_separator (rest_at text start) ≡ false → ArePartsOf text text []
ArePartsOf-last_other text start others none is =
    let parts : joined_parts (drop start text) ≡ (rest_at text start, []) =
    ap joined_parts (sym (take_rest text start))
    ∙ joined_parts-last_other (rest_at text start) (lacks_from_none (rest_at text start) none) is in
    parts_from text text []
    (sym (others.before ∙ ap (λ p. take start text ++ p.0) parts ∙ ap (λ rest. take start text ++ rest) (take_rest text start) ∙ take-append-drop start text))
    (sym (others.after ∙ ap (λ p. p.1) parts))
