-- Lines that end in a piece, one after the other.
use Rattle.std.proofs.Common.{◌≡◌, ℕ, ◌+◌, ◌-◌, ◌^◌, ◌<◌, ◌≤◌, Bool, true, false, List, [], ◌∷◌, ◌++◌, Option}
use Rattle.std.proofs.Common.{refl, sym, ap, ◌∙◌, arith, append-nil, append_assoc, take, length, length-append, length-take}
use Rattle.std.specs.Prelude.{nat_lt, ◌==◌, slice_index, if◌then◌else◌}
use Rattle.std.specs.Str.Lines.{strip_carriage_return}
use Rattle.std.proofs.lemmas.Bool.{ltb-true, lt-ltb}
use Rattle.std.proofs.lemmas.List.{map-append}
use Rattle.text_io.specs.Texts.{LacksLineFeed, ended}
use Rattle.text_io.specs.Buffers.{CanWrite, watch}
use Rattle.text_io.specs.declared.buffer.Buffered.{Buffered}
use Rattle.live.specs.Inputs.{face_of}
use Rattle.live.specs.LiveView.{reached}
use Rattle.live.specs.Output.{AreAnswered, AnswersLines, AnswersPiece, LinesRemain, through}
use Rattle.live.specs.PartialLine.{ended_with, whole_with, IsUnended}
use Rattle.live_rules.specs.Asked.{Asked, asked_by, asked_in, asked_by_all}
use Rattle.live_rules.specs.Answers.{Answer, Answers}
use Rattle.live_rules.specs.Moments.{Moment, bssids_at}
use Rattle.live_rules.specs.MoreAnswers.{MoreAnswers}
use Rattle.live_rules.specs.TextLines.{TextLine, Octets, TooLong, max_line, line_with, partial_after, lines_in, last_line}
use Rattle.live.specs.declared.face.Face.TheVariants.{Lines}
use Rattle.live.specs.declared.partial_input.PartialInput.{PartialInput}
use Rattle.live.specs.declared.partial_input.PartialInput.TheVariants.{Line}
use Rattle.live.proofs.AnswerSteps.{answered-none, answered-then}
use Rattle.live.proofs.PartialSteps.{long-on, partial-over, partial-on, first-line, first-partial, no-line}

-- ---- octets that end a line

-- one CR less is one octet less
stripped : (line : List ℕ) → length line ≤ length (strip_carriage_return line) + 1
stripped line = by (slice_index line (length line - 1) == 13)
  where
    by : (b : Bool) → length line ≤ length (if b then take (length line - 1) line else line) + 1
    by true = omega (arith, length-take (length line - 1) line)
    by false = omega arith

-- a line that is too long
over : (line : List ℕ) → max_line < length line → line_with line ≡ TooLong
over line more = rw (lt-ltb max_line (length line) more) refl

-- as if all of them had come before it ended
pub ended-after : (partial : TextLine) (end : List ℕ) → IsUnended partial → LacksLineFeed end
    → ended_with (partial_after partial end) [] ≡ ended_with partial end
ended-after TooLong end lacks none = ap (λ (b : TextLine). ended_with b []) (long-on end none)
ended-after (Octets octets) end lacks none = by (nat_lt (max_line + 1) (length octets + length end)) refl
  where
    by : (b : Bool) → nat_lt (max_line + 1) (length octets + length end) ≡ b
        → ended_with (partial_after (Octets octets) end) [] ≡ ended_with (Octets octets) end
    by true is =
        let many : max_line + 1 < length octets + length end = ltb-true (max_line + 1) (length octets + length end) is in
        let long : max_line < length (strip_carriage_return (octets ++ end)) =
        omega (arith, stripped (octets ++ end), length-append octets end) in
        ap (λ (b : TextLine). ended_with b []) (partial-over octets end lacks none many)
        ∙ sym (over (strip_carriage_return (octets ++ end)) long)
    by false is =
        let few : length octets + length end ≤ max_line + 1 = grind arith in
        ap (λ (b : TextLine). ended_with b []) (partial-on octets end lacks none few)
        ∙ ap (λ (l : List ℕ). line_with (strip_carriage_return l)) (append-nil (octets ++ end))

-- ---- the lines so far

pub feed-none : {W : Type 0} (taken : W → Option (List ℕ)) (failed : W → ℕ) (m : Moment) (w : Buffered W)
    (partial : TextLine) (piece : List ℕ) → m.lines + length piece < 2 ^ 62 → CanWrite failed w
    → LinesRemain taken failed m m w w partial partial piece piece
feed-none taken failed m w partial piece count can = record {
  lines = [];
  answered = answered-none taken failed Lines m w can;
  all = refl;
  next = refl;
  few = omega arith;
  countable = count;
  can_write = can;
}

-- lines say the same at a later moment
pub asked-later : MoreAnswers → (m now : Moment) (said : List Asked) (answers : List Answer) (lines : List TextLine)
    → Answers m said answers now → asked_in now lines ≡ asked_in m lines
asked-later laws m now said answers lines h =
    ap (λ (bs : List (List ℕ)). asked_by_all bs lines) (laws.bssids m said answers now h)

-- one line more
pub feed-more : MoreAnswers → {W : Type 0} (taken : W → Option (List ℕ)) (failed : W → ℕ) (m now next : Moment) (old mid new : Buffered W)
    (partial partial' partial'' : TextLine) (piece end later : List ℕ)
    → LinesRemain taken failed m now old mid partial partial' piece (ended end ++ later) → IsUnended partial'
    → LacksLineFeed end → partial'' ≡ Octets []
    → AreAnswered (through Lines (watch taken failed) mid new) now next (asked_in now (ended_with partial' end ∷ []))
    → LinesRemain taken failed m next old new partial partial'' piece later
feed-more laws taken failed m now next old mid new partial partial' partial'' piece end later s begun lacks begins a =
    let line : TextLine = ended_with partial' end in
    let count : next.lines ≡ now.lines + 1 = laws.lines now (asked_in now (line ∷ [])) a.answers next a.answered in
    let few : now.lines + length (ended end ++ later) ≤ m.lines + length piece = s.few in
    rw begins
    (record {
      lines = s.lines ++ line ∷ [];
      answered =
          rw (map-append (asked_by (bssids_at m)) s.lines (line ∷ []))
          (answered-then laws taken failed Lines m now next (asked_in m s.lines) (asked_in m (line ∷ [])) old mid new s.answered
          (rw (asked-later laws m now (asked_in m s.lines) s.answered.answers (line ∷ []) s.answered.answered) at a));
      all =
          s.all
          ∙ ap (λ (ls : List TextLine). s.lines ++ ls) (first-line partial' end later begun lacks)
          ∙ sym (append_assoc s.lines (line ∷ []) (lines_in (Octets []) later));
      next = s.next ∙ first-partial partial' end later begun lacks;
      few = omega (arith, count, few, length-append (ended end) later, length-append end (10 ∷ []));
      countable = s.countable;
      can_write = a.puts.can_write;
    })

-- no LF is left
pub feed-all : {W : Type 0} (taken : W → Option (List ℕ)) (failed : W → ℕ) (m now : Moment) (old new : Buffered W)
    (partial partial' partial'' : TextLine) (piece rest : List ℕ)
    → LinesRemain taken failed m now old new partial partial' piece rest → IsUnended partial' → LacksLineFeed rest
    → partial'' ≡ partial_after partial' rest → AnswersLines taken failed m now old new partial partial'' piece
feed-all taken failed m now old new partial partial' partial'' piece rest s begun lacks after =
    let all : lines_in partial piece ≡ s.lines =
    s.all ∙ ap (λ (ls : List TextLine). s.lines ++ ls) (no-line partial' rest begun lacks) ∙ append-nil s.lines in
    let few : now.lines + length rest ≤ m.lines + length piece = s.few in
    record {
      answered =
          rw all s.answered;
      next = after ∙ sym s.next;
      few = omega (arith, few);
    }

-- so a piece is answered where a line is at its end
pub piece-answered : {W : Type 0} (taken : W → Option (List ℕ)) (failed : W → ℕ) (before : PartialInput) (m now : Moment)
    (old new : Buffered W) (partial partial' : TextLine) (piece : List ℕ) → before ≡ Line partial
    → AnswersLines taken failed m now old new partial partial' piece
    → AnswersPiece (through (face_of before) (watch taken failed) old new) (reached m before) (reached now (Line partial')) piece
piece-answered taken failed before m now old new partial partial' piece is a =
    rw is
    (record {
      said = asked_in m (lines_in partial piece);
      is_said = (refl, ap (λ (p : TextLine). Line p) a.next);
      answered = a.answered;
    })

-- ---- the last line

pub last-whole : (partial : TextLine) → (partial ≡ Octets [] → ⊥) → last_line partial ≡ whole_with partial ∷ []
last-whole (Octets []) some = absurd (some refl)
last-whole (Octets (octet ∷ octets)) some = refl
last-whole TooLong some = refl
