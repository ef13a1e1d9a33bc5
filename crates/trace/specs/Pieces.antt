-- A trace text that comes in pieces, cut anywhere: what a reader of its lines answers to each piece, and to the end.
use Rattle.std.specs.Prelude.{ℕ, ◌+◌, ◌≡◌, ◌&&◌, nat_lt, List, [], ◌∷◌, ◌++◌, length, map, Option, Some, None, Result}
use Rattle.std.specs.Prelude.{Ok, Err, IsOkAnd, OnOk, if◌then◌else◌}
use Rattle.std.specs.Option.{option_to_list}
use Rattle.std.specs.Str.Lines.{strip_carriage_return}
use Rattle.ap_config.specs.declared.config.RadioConfig.{RadioConfig}
use Rattle.events.specs.declared.line.Line.{Line}
use Rattle.text_io.specs.Endings.{IsFaultOf}
use Rattle.text_io.specs.Faults.{◌>>=◌, read_ending}
use Rattle.text_io.specs.Texts.{cut, LacksLineFeed}
use Rattle.trace.specs.TraceText.{max_lines, fault_in, bssids_of, line_of, lines_from, lines_of}
use Rattle.trace.specs.declared.fault.TraceFault.{TraceFault}
use Rattle.trace.specs.declared.fault.LineFault.TheVariants.{TooMany}
use Rattle.text_io.specs.declared.read_fault.ReadFault.{ReadFault}
use Rattle.text_io.specs.declared.read_fault.ReadFault.TheVariants.{At, NoMemory}

-- ---- the lines of a text of which more is to come

abbrev pub all_but_last : List (List ℕ) → List (List ℕ)
all_but_last [] = []
all_but_last (part ∷ []) = []
all_but_last (part ∷ next ∷ parts) = part ∷ all_but_last (next ∷ parts)

abbrev pub last_of : List (List ℕ) → List ℕ
last_of [] = []
last_of (part ∷ []) = part
last_of (part ∷ next ∷ parts) = last_of (next ∷ parts)

-- the lines that an LF ends, less a CR directly before it
abbrev pub whole_lines : List ℕ → List (List ℕ)
whole_lines text = map strip_carriage_return (all_but_last (cut text))

-- what follows the last LF
abbrev pub unfinished_line : List ℕ → List ℕ
unfinished_line text = last_of (cut text)

-- ---- a reader

-- What a reader knows between two pieces: the addresses of the networks in order of place, how many lines have ended,
-- the octets of the line that has not, and the fault that it met, if it met one.
pub record ReaderView : Type 0 where
  pub bssids : List (List ℕ)
  pub ended_lines : ℕ
  pub unfinished : List ℕ
  pub fault : Option TraceFault

-- it read nothing
abbrev pub new_reader : List (List ℕ) → ReaderView
new_reader addresses = record { bssids = addresses; ended_lines = 0; unfinished = []; fault = None }

-- it met a fault
abbrev pub with_fault : TraceFault → ReaderView → ReaderView
with_fault met r = record r { fault = Some met }

-- ---- what it answers

-- what lines said before a line of this number, of which these octets came: after the most lines, any octet is a fault
abbrev pub before_line : ℕ → List ℕ → List Line → Result (List Line) TraceFault
before_line number octets said =
    if nat_lt max_lines number && nat_lt 0 (length octets) then Err (fault_in number TooMany) else Ok said

-- what the whole lines of a text say, which begins with the line that was unfinished, and before the line after them
abbrev pub said_in : ReaderView → List ℕ → Result (List Line) TraceFault
said_in r text = do
  said ← lines_from r.bssids (r.ended_lines + 1) (whole_lines text)
  before_line (r.ended_lines + length (whole_lines text) + 1) (unfinished_line text) said

-- what the last line says, of this number, if there is one
abbrev pub said_last : List (List ℕ) → ℕ → List ℕ → Result (Option Line) TraceFault
said_last addresses number [] = Ok None
said_last addresses number (octet ∷ octets) = line_of addresses number (octet ∷ octets)

-- the fault that was met, and else the answer
abbrev pub unless_met : {A : Type 0} → Option TraceFault → Result A TraceFault → Result A TraceFault
unless_met (Some met) answer = Err met
unless_met None answer = answer

-- as a list
abbrev pub as_list : Result (Option Line) TraceFault → Result (List Line) TraceFault
as_list (Ok said) = Ok (option_to_list said)
as_list (Err fault) = Err fault

-- the answer to a piece: the lines that end in it, the first of which may have begun before it
abbrev pub answer_to : ReaderView → List ℕ → Result (List Line) TraceFault
answer_to r piece = unless_met r.fault (said_in r (r.unfinished ++ piece))

-- the answer to the end of the text
abbrev pub answer_to_end : ReaderView → Result (Option Line) TraceFault
answer_to_end r = unless_met r.fault (said_last r.bssids (r.ended_lines + 1) r.unfinished)

-- ---- what it knows then

-- the reader after this answer: as it goes on, or with the fault
abbrev pub after_answer : {A : Type 0} → Result A TraceFault → ReaderView → ReaderView → ReaderView
after_answer (Ok said) old next = next
after_answer (Err met) old next = with_fault met old

-- the unfinished line has ended with an LF
abbrev pub after_line : ReaderView → ReaderView
after_line r = record r { ended_lines = r.ended_lines + 1; unfinished = [] }

-- the whole lines of a text have ended, which begins with the line that was unfinished
abbrev pub past : ReaderView → List ℕ → ReaderView
past r text = record r { ended_lines = r.ended_lines + length (whole_lines text); unfinished = unfinished_line text }

abbrev pub after_piece : ReaderView → List ℕ → ReaderView
after_piece r piece = after_answer (answer_to r piece) r (past r (r.unfinished ++ piece))

-- a line of these octets is one more, unless it is empty
abbrev pub lines_with : List ℕ → ℕ → ℕ
lines_with [] count = count
lines_with (octet ∷ octets) count = count + 1

-- the unfinished line has ended
abbrev pub past_end : ReaderView → ReaderView
past_end r = record r { ended_lines = lines_with r.unfinished r.ended_lines; unfinished = [] }

abbrev pub after_end : ReaderView → ReaderView
after_end r = after_answer (answer_to_end r) r (past_end r)

-- the reader after a call that answers this: where memory ran out, it is as it was
abbrev pub Leaves : {A : Type 0} → Result A (ReadFault TraceFault) → ReaderView → ReaderView → ReaderView → Type 0
Leaves (Ok said) old after new = new ≡ after
Leaves (Err (At met)) old after new = new ≡ after
Leaves (Err NoMemory) old after new = new ≡ old

-- the reader with the fault that a call met, if it met one
abbrev pub keeping : {A : Type 0} → Result A (ReadFault TraceFault) → ReaderView → ReaderView
keeping (Ok said) r = r
keeping (Err (At met)) r = with_fault met r
keeping (Err NoMemory) r = r

-- ---- what becomes of the lines

-- more lines were taken after those that were
abbrev pub TakesMore : List Line → (RadioConfig → List Line → Type 0) → (RadioConfig → List Line → Type 0) → Type 0
TakesMore more was is = (c : RadioConfig) (said : List Line) → was c said → is c (said ++ more)

-- A call took, after the lines that were taken, all that was read; or it answers the fault of that, or memory ran out.
abbrev pub Takes :
    Result Unit (ReadFault TraceFault)
    → Result (List Line) TraceFault
    → (RadioConfig → List Line → Type 0)
    → (RadioConfig → List Line → Type 0)
    → Type 0
Takes (Ok u) read was is = IsOkAnd read (λ more. TakesMore more was is)
Takes (Err fault) read was is = IsFaultOf read (read_ending fault)

-- ---- a text, however it is cut

-- what earlier lines said, and then what later ones say
abbrev pub said_after : List Line → Result (List Line) TraceFault → Result (List Line) TraceFault
said_after before (Ok later) = Ok (before ++ later)
said_after before (Err met) = Err met

-- A reader took, of a piece, what came before this rest, and these lines were taken.
pub record Remains (first : ReaderView) (piece : List ℕ) (now : ReaderView) (rest : List ℕ)
    (was is : RadioConfig → List Line → Type 0) : Type 0 where
  pub said : List Line
  pub says : said_in first (first.unfinished ++ piece) ≡ said_after said (said_in now (now.unfinished ++ rest))
  pub goes : past now (now.unfinished ++ rest) ≡ past first (first.unfinished ++ piece)
  pub took : TakesMore said was is
  pub same : now ≡ record first { ended_lines = now.ended_lines; unfinished = now.unfinished }
  pub lacks : LacksLineFeed now.unfinished

-- A reader took a piece, and these lines were taken; or it answers the fault of the piece, or memory ran out.
pub record EndsPiece (result : Result Unit (ReadFault TraceFault)) (first : ReaderView) (piece : List ℕ) (now : ReaderView)
    (was is : RadioConfig → List Line → Type 0) : Type 0 where
  pub takes : Takes result (said_in first (first.unfinished ++ piece)) was is
  pub goes : OnOk result (now ≡ past first (first.unfinished ++ piece))
  pub same : now ≡ record first { ended_lines = now.ended_lines; unfinished = now.unfinished }

-- what is answered to pieces, one after another, and to the end, up to the first fault
abbrev pub answer_to_all : ReaderView → List (List ℕ) → Result (List Line) TraceFault
answer_to_all r [] = do
  said ← answer_to_end r
  Ok (option_to_list said)
answer_to_all r (piece ∷ pieces) = do
  said ← answer_to r piece
  later ← answer_to_all (after_piece r piece) pieces
  Ok (said ++ later)

-- the reader that has read this text without a fault, in whatever pieces
abbrev pub reader_after : List (List ℕ) → List ℕ → ReaderView
reader_after addresses text = record {
  bssids = addresses;
  ended_lines = length (whole_lines text);
  unfinished = unfinished_line text;
  fault = None;
}

-- a reader of a configuration's networks has read this text without a fault, and all that it answered is these lines
pub record HasRead (config : RadioConfig) (text : List ℕ) (said : List Line) (r : ReaderView) : Type 0 where
  pub state : r ≡ reader_after (bssids_of config) text
  pub answered : lines_from (bssids_of config) 1 (whole_lines text) ≡ Ok said

-- Of what was read of a text the lines that have ended were taken, and the reader holds the octets of the line that has
-- not.
abbrev pub AreTakenSoFar : RadioConfig → List ℕ → ReaderView → (List Line → Type 0) → Type 0
AreTakenSoFar c text r taken = (said : List Line) × HasRead c text said r × taken said

-- the lines of a whole text were taken
abbrev pub AreTaken : RadioConfig → List ℕ → (List Line → Type 0) → Type 0
AreTaken c text taken = (lines : List Line) × (lines_of c text ≡ Ok lines) × taken lines
