-- What is answered to the pieces of a text is what the text says.
use Rattle.std.proofs.Common.{◌≡◌, ℕ, ◌+◌, Bool, true, false, List, [], ◌∷◌, ◌++◌, length, Option, Result, Ok, Err, refl, ap, sym, ◌∙◌, append_assoc, append-nil, arith, cond, length-append}
use Rattle.std.specs.Prelude.{nat_lt, ◌&&◌, if◌then◌else◌}
use Rattle.std.specs.List.{concat, onto_first}
use Rattle.std.proofs.lemmas.Bool.{lt-ltb}
use Rattle.std.specs.Option.{option_to_list}
use Rattle.std.specs.Str.Lines.{lines, lines_of_parts, strip_carriage_return}
use Rattle.ap_config.specs.declared.config.RadioConfig.{RadioConfig}
use Rattle.events.specs.declared.line.Line.{Line}
use Rattle.text_io.specs.Faults.{◌>>=◌}
use Rattle.text_io.specs.Texts.{is_line_feed, cut}
use Rattle.trace.specs.TraceText.{max_lines, fault_in, bssids_of, line_of, lines_from, lines_of}
use Rattle.trace.specs.Pieces.{ReaderView, HasRead, new_reader, reader_after, whole_lines, unfinished_line, before_line, said_last, said_after, answer_to, answer_to_all, after_piece}
use Rattle.trace.specs.declared.fault.TraceFault.{TraceFault}
use Rattle.trace.specs.declared.fault.LineFault.TheVariants.{TooMany}
use Rattle.trace.specs.LineLaws.{whole_lines-append, unfinished_line-append, lines-append, cut-unfinished}
use Rattle.trace.specs.LineLaws.{HasFirst, slice_split-has_first, last_part}

-- ---- what lines say, and then others

pub said_after-none : (answer : Result (List Line) TraceFault) → said_after [] answer ≡ answer
said_after-none (Ok said) = refl
said_after-none (Err met) = refl

-- what one line says, and others, and then others
grouped : (one : Result (Option Line) TraceFault) (some others : Result (List Line) TraceFault)
    → (one >>= λ o. ((some >>= λ ls. said_after ls others) >>= λ ls. Ok (option_to_list o ++ ls)))
    ≡ ((one >>= λ o. (some >>= λ ls. Ok (option_to_list o ++ ls))) >>= λ ls. said_after ls others)
grouped (Err met) some others = refl
grouped (Ok o) (Err met) others = refl
grouped (Ok o) (Ok ls) (Err met) = refl
grouped (Ok o) (Ok ls) (Ok more) = ap (λ (all : List Line). Ok all) (sym (append_assoc (option_to_list o) ls more))

pub lines_from-append : (bssids : List (List ℕ)) (number : ℕ) (some others : List (List ℕ))
    → lines_from bssids number (some ++ others)
    ≡ (lines_from bssids number some >>= λ ls. said_after ls (lines_from bssids (number + length some) others))
lines_from-append bssids number [] others =
    let same : number + 0 ≡ number = omega arith in
    sym (ap (λ n. said_after [] (lines_from bssids n others)) same ∙ said_after-none (lines_from bssids number others))
lines_from-append bssids number (line ∷ some) others =
    let count : number + 1 + length some ≡ number + length (line ∷ some) = omega arith in
    rw (lines_from-append bssids (number + 1) some others, count)
    (grouped (line_of bssids number line) (lines_from bssids (number + 1) some)
    (lines_from bssids (number + length (line ∷ some)) others))

-- ---- the text so far, and what comes later

-- what lines say after those of a text that were given
pub read_on : (config : RadioConfig) (text later : List ℕ) (said : List Line) (r : ReaderView)
    → HasRead config text said r
    → lines_of config (text ++ later)
    ≡ said_after said
    (lines_from (bssids_of config) (length (whole_lines text) + 1) (lines (unfinished_line text ++ later)))
read_on config text later said r h =
    let others : List (List ℕ) = lines (unfinished_line text ++ later) in
    let count : 1 + length (whole_lines text) ≡ length (whole_lines text) + 1 = omega arith in
    rw (lines-append text later, lines_from-append (bssids_of config) 1 (whole_lines text) others, h.answered, count) refl

-- ---- a line too many

lines_of_parts-has_first : (x : ℕ) (first : List ℕ) (others : List (List ℕ))
    → HasFirst (lines_of_parts (onto_first x (first ∷ others)))
lines_of_parts-has_first x first [] = (x ∷ first, [], last_part (x ∷ first) (omega arith))
lines_of_parts-has_first x first (other ∷ others) =
    (strip_carriage_return (x ∷ first), lines_of_parts (other ∷ others), refl)

-- a text that is not empty has a line
lines-has_first : (x : ℕ) (xs : List ℕ) → HasFirst (lines (x ∷ xs))
lines-has_first x xs =
    let parts : HasFirst (cut xs) = slice_split-has_first is_line_feed xs in
    rw parts.2
    (elim (is_line_feed x) as
    (λ b. HasFirst (lines_of_parts (cond b ([] ∷ parts.0 ∷ parts.1) (onto_first x (parts.0 ∷ parts.1))))) [
      | true ↦ (strip_carriage_return [], lines_of_parts (parts.0 ∷ parts.1), refl)
      | false ↦ lines_of_parts-has_first x parts.0 parts.1
    ])

-- what is answered where the line of a number is one too many, or not
abbrev pub limited : Bool → ℕ → List Line → Result (List Line) TraceFault
limited over number said = if over then Err (fault_in number TooMany) else Ok said

-- an octet too many is the fault of the line that begins with it
begun_fault : (bssids : List (List ℕ)) (number : ℕ) (octets later : List ℕ) (said : List Line) (met : TraceFault)
    → before_line number octets said ≡ Err met
    → lines_from bssids number (lines (octets ++ later)) ≡ Err met
begun_fault bssids number octets later said met e = by octets (nat_lt max_lines number) refl e
  where
    by : (os : List ℕ) (over : Bool) → nat_lt max_lines number ≡ over
        → limited (over && nat_lt 0 (length os)) number said ≡ Err met
        → lines_from bssids number (lines (os ++ later)) ≡ Err met
    by [] true is e = cc
    by (x ∷ xs) true is e =
        rw ((lines-has_first x (xs ++ later)).2, is) (rw (lt-ltb 0 (length (x ∷ xs)) (omega arith)) at e)
    by os false is e = cc

-- ---- piece by piece

pub read-nothing : (config : RadioConfig) → HasRead config [] [] (new_reader (bssids_of config))
read-nothing config = record { state = refl; answered = refl }

-- what was answered goes on
answered_more : (some : Result (List Line) TraceFault) (over : Bool) (number : ℕ) (more : List Line)
    → (some >>= λ said. limited over number said) ≡ Ok more
    → some ≡ Ok more
answered_more (Err met) over number more e = cc
answered_more (Ok ls) true number more e = cc
answered_more (Ok ls) false number more e = e

pub read-more : (config : RadioConfig) (text piece : List ℕ) (said more : List Line) (r : ReaderView)
    → HasRead config text said r → answer_to r piece ≡ Ok more
    → HasRead config (text ++ piece) (said ++ more) (after_piece r piece)
read-more config text piece said more r h e =
    let bssids : List (List ℕ) = bssids_of config in
    let on : List ℕ = unfinished_line text ++ piece in
    let here : answer_to (reader_after bssids text) piece ≡ Ok more = rw h.state at e in
    let whole : length (whole_lines (text ++ piece)) ≡ length (whole_lines text) + length (whole_lines on) =
    ap length (whole_lines-append text piece) ∙ length-append (whole_lines text) (whole_lines on) in
    let count : 1 + length (whole_lines text) ≡ length (whole_lines text) + 1 = omega arith in
    record {
      state = rw (h.state, here, whole, unfinished_line-append text piece) refl;
      answered =
          rw
          (whole_lines-append text piece, lines_from-append bssids 1 (whole_lines text) (whole_lines on), h.answered, count)
          (ap (said_after said) (answered_more (lines_from bssids (length (whole_lines text) + 1) (whole_lines on)) _ _ more here));
    }

-- whole lines with a fault, or an octet too many after them
faulty : (bssids : List (List ℕ)) (number : ℕ) (some : List (List ℕ)) (octets later : List ℕ)
    (answer : Result (List Line) TraceFault) (met : TraceFault)
    → (answer >>= λ said. before_line (number + length some) octets said) ≡ Err met
    → (answer >>= λ ls. said_after ls (lines_from bssids (number + length some) (lines (octets ++ later)))) ≡ Err met
faulty bssids number some octets later (Err other) met e = cc
faulty bssids number some octets later (Ok ls) met e =
    ap (said_after ls) (begun_fault bssids (number + length some) octets later ls met e)

pub read-fault : (config : RadioConfig) (text piece later : List ℕ) (said : List Line) (r : ReaderView)
    (met : TraceFault) → HasRead config text said r → answer_to r piece ≡ Err met
    → lines_of config (text ++ piece ++ later) ≡ Err met
read-fault config text piece later said r met h e =
    let bssids : List (List ℕ) = bssids_of config in
    let on : List ℕ = unfinished_line text ++ piece in
    let number : ℕ = length (whole_lines text) + 1 in
    let here : answer_to (reader_after bssids text) piece ≡ Err met = rw h.state at e in
    let count : length (whole_lines text) + length (whole_lines on) + 1 ≡ number + length (whole_lines on) = omega arith in
    rw
    (append_assoc text piece later, read_on config text (piece ++ later) said r h, ← append_assoc (unfinished_line text) piece later, lines-append on later, lines_from-append bssids number (whole_lines on) (lines (unfinished_line on ++ later)))
    (ap (said_after said)
    (faulty bssids number (whole_lines on) (unfinished_line on) later (lines_from bssids number (whole_lines on)) met
    (rw count at here)))

-- ---- the end

last_alone : (answer : Result (Option Line) TraceFault)
    → (answer >>= λ o. Ok (option_to_list o ++ [])) ≡ (answer >>= λ said. Ok (option_to_list said))
last_alone (Ok o) = ap (λ (all : List Line). Ok all) (append-nil (option_to_list o))
last_alone (Err met) = refl

-- what the last line says
last_line : (bssids : List (List ℕ)) (number : ℕ) (octets : List ℕ) → cut octets ≡ octets ∷ []
    → lines_from bssids number (lines octets) ≡ (said_last bssids number octets >>= λ said. Ok (option_to_list said))
last_line bssids number [] one = refl
last_line bssids number (x ∷ xs) one =
    ap (lines_from bssids number) (ap lines_of_parts one ∙ last_part (x ∷ xs) (omega arith))
    ∙ last_alone (line_of bssids number (x ∷ xs))

pub read-end : (config : RadioConfig) (text : List ℕ) (said : List Line) (r : ReaderView) → HasRead config text said r
    → lines_of config text ≡ said_after said (answer_to_all r [])
read-end config text said r h =
    let bssids : List (List ℕ) = bssids_of config in
    let number : ℕ = length (whole_lines text) + 1 in
    ap (lines_of config) (sym (append-nil text))
    ∙ read_on config text [] said r h
    ∙ ap
    (said_after said)
    (ap (λ (t : List ℕ). lines_from bssids number (lines t)) (append-nil (unfinished_line text))
    ∙ last_line bssids number (unfinished_line text) (cut-unfinished text)
    ∙ sym (ap (λ (s : ReaderView). answer_to_all s []) h.state))

-- ---- all pieces

-- the answer to a piece, and then to others
then_others : (said more : List Line) (later : Result (List Line) TraceFault)
    → said_after said (later >>= λ ls. Ok (more ++ ls)) ≡ said_after (said ++ more) later
then_others said more (Ok ls) = ap (λ (all : List Line). Ok all) (sym (append_assoc said more ls))
then_others said more (Err met) = refl

-- what is answered to all pieces from here on is what the text and they say
abbrev SaysAll : RadioConfig → List ℕ → List (List ℕ) → List Line → ReaderView → Type 0
SaysAll config text pieces said r = said_after said (answer_to_all r pieces) ≡ lines_of config (text ++ concat pieces)

one_more : (config : RadioConfig) (text piece : List ℕ) (pieces : List (List ℕ)) (said : List Line) (r : ReaderView)
    → HasRead config text said r
    → ((more : List Line) → HasRead config (text ++ piece) (said ++ more) (after_piece r piece)
    → SaysAll config (text ++ piece) pieces (said ++ more) (after_piece r piece))
    → SaysAll config text (piece ∷ pieces) said r
one_more config text piece pieces said r h later = split (answer_to r piece) refl
  where
    split : (answer : Result (List Line) TraceFault) → answer_to r piece ≡ answer
        → SaysAll config text (piece ∷ pieces) said r
    split (Err met) is =
        rw is
        (sym (read-fault config text piece (concat pieces) said r met h is)
        ∙ ap (lines_of config) (append_assoc text piece (concat pieces)))
    split (Ok more) is =
        ap
        (λ (a : Result (List Line) TraceFault).
        said_after said (a >>= λ ls. answer_to_all (after_piece r piece) pieces >>= λ next. Ok (ls ++ next)))
        is
        ∙ then_others said more (answer_to_all (after_piece r piece) pieces)
        ∙ later more (read-more config text piece said more r h is)
        ∙ ap (lines_of config) (append_assoc text piece (concat pieces))

pub read-all : (config : RadioConfig) (text : List ℕ) (pieces : List (List ℕ)) (said : List Line) (r : ReaderView)
    → HasRead config text said r → SaysAll config text pieces said r
read-all config text [] said r h = sym (read-end config text said r h) ∙ ap (lines_of config) (sym (append-nil text))
read-all config text (piece ∷ pieces) said r h =
    one_more config text piece pieces said r h
    (λ (more : List Line) h'. read-all config (text ++ piece) pieces (said ++ more) (after_piece r piece) h')

pub all-read : (config : RadioConfig) (pieces : List (List ℕ))
    → answer_to_all (new_reader (bssids_of config)) pieces ≡ lines_of config (concat pieces)
all-read config pieces =
    sym (said_after-none (answer_to_all (new_reader (bssids_of config)) pieces))
    ∙ read-all config [] pieces [] (new_reader (bssids_of config)) (read-nothing config)
