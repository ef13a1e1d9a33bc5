-- What the steps of reading a piece rest on.
use Rattle.std.proofs.Common.{◌≡◌, ℕ, ◌+◌, Bool, true, false, List, [], ◌∷◌, ◌++◌, length, Option, Some, Result, Ok, Err, None, IsOkAnd, MatchOption, MatchResult, OnOk, OnErr, length-append, refl, ap, sym, subst, ◌∙◌, append_assoc, append-nil, arith}
use Rattle.std.specs.Option.{option_to_list}
use Rattle.std.proofs.lemmas.List.Elements.{All-append}
use Rattle.std.specs.Str.Lines.{strip_carriage_return}
use Rattle.ap_config.specs.declared.config.RadioConfig.{RadioConfig}
use Rattle.events.specs.declared.line.Line.{Line}
use Rattle.text_io.specs.Faults.{◌>>=◌, read_ending}
use Rattle.text_io.specs.Texts.{LacksLineFeed, ended}
use Rattle.trace.specs.TraceText.{bssids_of, line_of, lines_from, lines_of}
use Rattle.trace.specs.Pieces.{ReaderView, HasRead, Takes, TakesMore, AreTaken, AreTakenSoFar, Remains, EndsPiece, after_line, as_list, new_reader, whole_lines, before_line, said_in, said_after, answer_to, answer_to_end, after_piece, past}
use Rattle.text_io.specs.Endings.{Gives, IsFaultOf}
use Rattle.text_io.specs.EndingLaws.{same_fault}
use Rattle.text_io.specs.declared.read_fault.ReadFault.{ReadFault}
use Rattle.trace.specs.declared.fault.TraceFault.{TraceFault}
use Rattle.trace.specs.LineLaws.{whole_lines_line, unfinished_line_line, whole_lines_none, unfinished_line_none}
use Rattle.trace.proofs.PieceLaws.{limited, read-end, read-fault, read-more, read-nothing, said_after-none}
use Rattle.ap_config.specs.Samples.{radio}

-- ---- a piece in which no line ends

pub held_says : (r : ReaderView) (text : List ℕ) → LacksLineFeed text
    → said_in r text ≡ before_line (r.ended_lines + 1) text []
held_says r text lacks =
    let same : r.ended_lines + 0 + 1 ≡ r.ended_lines + 1 = omega arith in
    rw (whole_lines_none text lacks, unfinished_line_none text lacks, same) refl

pub held_past : (r : ReaderView) (text : List ℕ) → LacksLineFeed text → record r { unfinished = text } ≡ past r text
held_past r text lacks =
    let same : r.ended_lines + 0 ≡ r.ended_lines = omega arith in
    rw (whole_lines_none text lacks, unfinished_line_none text lacks, same) refl

-- ---- a piece, line after line

said_after-assoc : (before more : List Line) (later : Result (List Line) TraceFault)
    → said_after before (said_after more later) ≡ said_after (before ++ more) later
said_after-assoc before more (Ok ls) = ap (λ (all : List Line). Ok all) (sym (append_assoc before more ls))
said_after-assoc before more (Err met) = refl

-- what was said before stands before what comes, whether a line may begin there or not
limit_after : (first : List Line) (read : Result (List Line) TraceFault) (over : Bool) (number : ℕ)
    → ((read >>= λ more. Ok (first ++ more)) >>= λ all. limited over number all)
    ≡ said_after first (read >>= λ more. limited over number more)
limit_after first (Ok more) true number = refl
limit_after first (Ok more) false number = refl
limit_after first (Err met) over number = refl

-- the unfinished line ends and says this, and a text comes after it
line_then : (r : ReaderView) (end text : List ℕ) (said : Option Line) → LacksLineFeed r.unfinished → LacksLineFeed end
    → line_of r.bssids (r.ended_lines + 1) (strip_carriage_return (r.unfinished ++ end)) ≡ Ok said
    → said_in r (r.unfinished ++ (ended end ++ text)) ≡ said_after (option_to_list said) (said_in (after_line r) text)
line_then r end text said before after e =
    let line : List ℕ = strip_carriage_return (r.unfinished ++ end) in
    let number : r.ended_lines + length (line ∷ whole_lines text) + 1 ≡ r.ended_lines + 1 + length (whole_lines text) + 1 =
    omega arith in
    rw
    (← append_assoc r.unfinished (ended end) text, whole_lines_line r.unfinished end text before after, unfinished_line_line r.unfinished end text before after, e, number)
    (limit_after (option_to_list said) (lines_from r.bssids (r.ended_lines + 1 + 1) (whole_lines text)) _ _)

-- it ends and has a fault
line_refused : (r : ReaderView) (end text : List ℕ) (met : TraceFault) → LacksLineFeed r.unfinished → LacksLineFeed end
    → line_of r.bssids (r.ended_lines + 1) (strip_carriage_return (r.unfinished ++ end)) ≡ Err met
    → said_in r (r.unfinished ++ (ended end ++ text)) ≡ Err met
line_refused r end text met before after e =
    rw (← append_assoc r.unfinished (ended end) text, whole_lines_line r.unfinished end text before after, e) refl

-- the reader then
line_past : (r : ReaderView) (end text : List ℕ) → LacksLineFeed r.unfinished → LacksLineFeed end
    → past (after_line r) text ≡ past r (r.unfinished ++ (ended end ++ text))
line_past r end text before after =
    let line : List ℕ = strip_carriage_return (r.unfinished ++ end) in
    let number : r.ended_lines + length (line ∷ whole_lines text) ≡ r.ended_lines + 1 + length (whole_lines text) =
    omega arith in
    rw
    (← append_assoc r.unfinished (ended end) text, whole_lines_line r.unfinished end text before after, unfinished_line_line r.unfinished end text before after, number)
    refl

-- an answer, where there is one
answer_is : (answer : Result (List Line) TraceFault) (P : List Line → Type 0) → IsOkAnd answer P
    → (said : List Line) × (answer ≡ Ok said) × P said
answer_is (Ok said) P h = (said, refl, h)
answer_is (Err met) P h = absurd h

line_is : (answer : Result (Option Line) TraceFault) (P : List Line → Type 0) → IsOkAnd (as_list answer) P
    → (said : Option Line) × (answer ≡ Ok said) × P (option_to_list said)
line_is (Ok said) P h = (said, refl, h)
line_is (Err met) P h = absurd h

line_fault : (answer : Result (Option Line) TraceFault) (met : TraceFault) → as_list answer ≡ Err met → answer ≡ Err met
line_fault (Ok said) met e = cc
line_fault (Err other) met e = cc

pub remains_none : (r : ReaderView) (piece : List ℕ) (was : RadioConfig → List Line → Type 0) → LacksLineFeed r.unfinished
    → Remains r piece r piece was was
remains_none r piece was lacks = record {
  said = [];
  says = sym (said_after-none (said_in r (r.unfinished ++ piece)));
  goes = refl;
  took = λ c said h. rw (append-nil said) h;
  same = refl;
  lacks = lacks;
}

pub remains_more : (first : ReaderView) (piece : List ℕ) (now : ReaderView) (end later : List ℕ) (next : ReaderView)
    (was is is' : RadioConfig → List Line → Type 0) → Remains first piece now (ended end ++ later) was is
    → LacksLineFeed end
    → IsOkAnd (as_list (line_of now.bssids (now.ended_lines + 1) (strip_carriage_return (now.unfinished ++ end))))
    (λ more. TakesMore more is is')
    → next ≡ after_line now → Remains first piece next later was is'
remains_more first piece now end later next was is is' s lacks takes same =
    let a = line_is (line_of now.bssids (now.ended_lines + 1) (strip_carriage_return (now.unfinished ++ end))) (λ more. TakesMore more is is') takes in
    rw same
    (record {
      said = s.said ++ option_to_list a.0;
      says =
          s.says
          ∙ ap (said_after s.said) (line_then now end later a.0 s.lacks lacks a.1)
          ∙ said_after-assoc s.said (option_to_list a.0) (said_in (after_line now) later);
      goes = line_past now end later s.lacks lacks ∙ s.goes;
      took = λ c said h.
          rw (append_assoc said s.said (option_to_list a.0)) at (a.2 c (said ++ s.said) (s.took c said h));
      same = ap (λ (r : ReaderView). record r { ended_lines = now.ended_lines + 1; unfinished = [] }) s.same;
      lacks = λ k d low e. absurd (omega (arith, low));
    })

pub remains_fault : (first : ReaderView) (piece : List ℕ) (now : ReaderView) (end later : List ℕ) (next : ReaderView)
    (was is is' : RadioConfig → List Line → Type 0) (fault : ReadFault TraceFault)
    → Remains first piece now (ended end ++ later) was is → LacksLineFeed end
    → IsFaultOf (as_list (line_of now.bssids (now.ended_lines + 1) (strip_carriage_return (now.unfinished ++ end)))) (read_ending fault)
    → next ≡ record now { ended_lines = next.ended_lines; unfinished = next.unfinished }
    → EndsPiece (Err fault) first piece next was is'
remains_fault first piece now end later next was is is' fault s lacks h same =
    let line : Result (Option Line) TraceFault =
    line_of now.bssids (now.ended_lines + 1) (strip_carriage_return (now.unfinished ++ end)) in
    record {
      takes =
          same_fault (as_list line) (said_in first (first.unfinished ++ piece)) fault h
          (λ met e.
          s.says ∙ ap (said_after s.said) (line_refused now end later met s.lacks lacks (line_fault line met e)));
      goes = tt;
      same =
          same
          ∙ ap (λ (r : ReaderView). record r { ended_lines = next.ended_lines; unfinished = next.unfinished }) s.same;
    }

-- the reader stayed at the line that ended, which said this, and then went on
pub remains_on : (first : ReaderView) (piece : List ℕ) (now : ReaderView) (end later : List ℕ) (at next : ReaderView)
    (was is is' : RadioConfig → List Line → Type 0) → Remains first piece now (ended end ++ later) was is
    → LacksLineFeed end
    → IsOkAnd (as_list (line_of now.bssids (now.ended_lines + 1) (strip_carriage_return (now.unfinished ++ end))))
    (λ more. TakesMore more is is')
    → at ≡ record now { unfinished = at.unfinished } → next ≡ after_line at → Remains first piece next later was is'
remains_on first piece now end later at next was is is' s lacks takes same on =
    remains_more first piece now end later next was is is' s lacks takes (on ∙ ap after_line same)

-- the same of a line of which nothing came before
pub remains_unbroken : (first : ReaderView) (piece : List ℕ) (now : ReaderView) (end later : List ℕ) (at next : ReaderView)
    (was is is' : RadioConfig → List Line → Type 0) → Remains first piece now (ended end ++ later) was is
    → LacksLineFeed end → now.unfinished ≡ []
    → IsOkAnd (as_list (line_of now.bssids (now.ended_lines + 1) (strip_carriage_return end))) (λ more. TakesMore more is is')
    → at ≡ now → next ≡ after_line at → Remains first piece next later was is'
remains_unbroken first piece now end later at next was is is' s lacks none takes same on =
    remains_more first piece now end later next was is is' s lacks
    (subst
    (λ (u : List ℕ).
    IsOkAnd (as_list (line_of now.bssids (now.ended_lines + 1) (strip_carriage_return (u ++ end))))
    (λ more. TakesMore more is is'))
    (sym none)
    takes)
    (on ∙ ap after_line same)

-- the reader stayed at the line that ended, which has a fault
pub fault_at : (first : ReaderView) (piece : List ℕ) (now : ReaderView) (end later : List ℕ) (next : ReaderView)
    (was is is' : RadioConfig → List Line → Type 0) (fault : ReadFault TraceFault)
    → Remains first piece now (ended end ++ later) was is → LacksLineFeed end
    → IsFaultOf (as_list (line_of now.bssids (now.ended_lines + 1) (strip_carriage_return (now.unfinished ++ end)))) (read_ending fault)
    → next ≡ record now { unfinished = next.unfinished } → EndsPiece (Err fault) first piece next was is'
fault_at first piece now end later next was is is' fault s lacks h same =
    remains_fault first piece now end later next was is is' fault s lacks h
    (same
    ∙ ap
    (λ (n : ℕ). record now { ended_lines = n; unfinished = next.unfinished })
    (sym (ap (λ (r : ReaderView). r.ended_lines) same)))

-- the same of a line of which nothing came before
pub fault_unbroken : (first : ReaderView) (piece : List ℕ) (now : ReaderView) (end later : List ℕ) (next : ReaderView)
    (was is is' : RadioConfig → List Line → Type 0) (fault : ReadFault TraceFault)
    → Remains first piece now (ended end ++ later) was is → LacksLineFeed end → now.unfinished ≡ []
    → IsFaultOf (as_list (line_of now.bssids (now.ended_lines + 1) (strip_carriage_return end))) (read_ending fault)
    → next ≡ now → EndsPiece (Err fault) first piece next was is'
fault_unbroken first piece now end later next was is is' fault s lacks none h same =
    fault_at first piece now end later next was is is' fault s lacks
    (subst
    (λ (u : List ℕ).
    IsFaultOf (as_list (line_of now.bssids (now.ended_lines + 1) (strip_carriage_return (u ++ end)))) (read_ending fault))
    (sym none)
    h)
    (same ∙ ap (λ (u : List ℕ). record now { unfinished = u }) (sym (ap (λ (r : ReaderView). r.unfinished) same)))

-- no line ends in the rest
pub remains_end : (first : ReaderView) (piece : List ℕ) (now : ReaderView) (rest : List ℕ) (next : ReaderView)
    (was is : RadioConfig → List Line → Type 0) (result : Result Unit (ReadFault TraceFault))
    → Remains first piece now rest was is → LacksLineFeed rest
    → Gives (λ _. []) read_ending result (before_line (now.ended_lines + 1) (now.unfinished ++ rest) [])
    → OnOk result (next ≡ record now { unfinished = now.unfinished ++ rest }) → OnErr result (next ≡ now)
    → EndsPiece result first piece next was is
remains_end first piece now rest next was is (Ok u) s lacks gives ok err =
    let none = All-append (λ octet. octet ≡ 10 → ⊥) now.unfinished rest s.lacks lacks in
    let held = held_says now (now.unfinished ++ rest) none in
    let all : said_in first (first.unfinished ++ piece) ≡ Ok s.said =
    s.says ∙ ap (said_after s.said) (held ∙ gives) ∙ ap (λ (ls : List Line). Ok ls) (append-nil s.said) in
    record {
      takes = rw all s.took;
      goes = ok ∙ held_past now (now.unfinished ++ rest) none ∙ s.goes;
      same = rw ok (ap (λ (r : ReaderView). record r { unfinished = now.unfinished ++ rest }) s.same);
    }
remains_end first piece now rest next was is (Err fault) s lacks gives ok err =
    let none = All-append (λ octet. octet ≡ 10 → ⊥) now.unfinished rest s.lacks lacks in
    let held = held_says now (now.unfinished ++ rest) none in
    record {
      takes =
          same_fault (before_line (now.ended_lines + 1) (now.unfinished ++ rest) []) (said_in first (first.unfinished ++ piece))
          fault gives
          (λ met e. s.says ∙ ap (said_after s.said) (held ∙ e));
      goes = tt;
      same = rw err s.same;
    }

-- ---- lines that are kept

-- all that was taken is kept, where nothing was before
pub owned_all : (read : Result (List Line) TraceFault) (old new : List Line) → old ≡ []
    → IsOkAnd read (λ more. TakesMore more (λ _ said. old ≡ said) (λ _ said. new ≡ said)) → read ≡ Ok new
owned_all read old new none takes =
    let a = answer_is read (λ more. TakesMore more (λ _ said. old ≡ said) (λ _ said. new ≡ said)) takes in
    a.1 ∙ ap (λ (all : List Line). Ok all) (sym (a.2 radio [] none))

-- the last of no more than one is that one
last_is : (said last : Option Line) (rest : List Line) (count left : ℕ) → option_to_list said ≡ rest ++ option_to_list last
    → count ≡ length (option_to_list said) → MatchOption last ((count ≡ 0) × (left ≡ 0)) (λ _. left + 1 ≡ count)
    → said ≡ last
last_is None None rest count left parts is cases = refl
last_is None (Some y) rest count left parts is cases = absurd (omega (arith, is, cases))
last_is (Some x) None rest count left parts is cases = absurd (omega (arith, is, cases.0))
last_is (Some x) (Some y) [] count left parts is cases = cc parts
last_is (Some x) (Some y) (r ∷ rest) count left parts is cases =
    absurd (omega (arith, ap length parts, length-append rest (y ∷ [])))

pub owned_last : (read : Result (Option Line) TraceFault) (old new rest : List Line) (last : Option Line) (count left : ℕ)
    → old ≡ [] → IsOkAnd (as_list read) (λ more. TakesMore more (λ _ said. old ≡ said) (λ _ said. new ≡ said))
    → new ≡ rest ++ option_to_list last → count ≡ length new
    → MatchOption last ((count ≡ 0) × (left ≡ 0)) (λ _. left + 1 ≡ count) → read ≡ Ok last
owned_last read old new rest last count left none takes parts is cases =
    let a = line_is read (λ more. TakesMore more (λ _ said. old ≡ said) (λ _ said. new ≡ said)) takes in
    let all : new ≡ option_to_list a.0 = a.2 radio [] none in
    a.1
    ∙ ap
    (λ (o : Option Line). Ok o)
    (last_is a.0 last rest count left (sym all ∙ parts) (is ∙ ap length all) cases)

-- ---- what was taken of a text

pub taken_on : (c : RadioConfig) (text piece : List ℕ) (r r' : ReaderView) (was is : RadioConfig → List Line → Type 0)
    (result : Result Unit (ReadFault TraceFault)) → Takes result (answer_to r piece) was is
    → OnOk result (r' ≡ after_piece r piece) → AreTakenSoFar c text r (was c)
    → MatchResult result (λ _. AreTakenSoFar c (text ++ piece) r' (is c))
    (λ fault. IsFaultOf (lines_of c (text ++ piece)) (read_ending fault))
taken_on c text piece r r' was is (Ok u) takes after h =
    let a = answer_is (answer_to r piece) (λ more. TakesMore more was is) takes in (
      h.0 ++ a.0,
      rw after (read-more c text piece h.0 a.0 r h.1 a.1),
      a.2 c h.0 h.2,
    )
taken_on c text piece r r' was is (Err fault) takes after h =
    same_fault (answer_to r piece) (lines_of c (text ++ piece)) fault takes
    (λ met e.
    ap (lines_of c) (sym (append-nil (text ++ piece)))
    ∙ read-fault c text piece [] h.0 r met h.1 e)

as_list_is : (last : Result (Option Line) TraceFault) → (last >>= λ said. Ok (option_to_list said)) ≡ as_list last
as_list_is (Ok said) = refl
as_list_is (Err met) = refl

-- what a text says whose lines that ended were taken
ends_so : (c : RadioConfig) (text : List ℕ) (said : List Line) (r : ReaderView) (last : Result (List Line) TraceFault)
    → HasRead c text said r → as_list (answer_to_end r) ≡ last → lines_of c text ≡ said_after said last
ends_so c text said r last h is =
    read-end c text said r h ∙ ap (said_after said) (as_list_is (answer_to_end r) ∙ is)

pub taken_at_end : (c : RadioConfig) (text : List ℕ) (r : ReaderView) (was is : RadioConfig → List Line → Type 0)
    (result : Result Unit (ReadFault TraceFault)) → Takes result (as_list (answer_to_end r)) was is
    → AreTakenSoFar c text r (was c)
    → MatchResult result (λ _. AreTaken c text (is c)) (λ fault. IsFaultOf (lines_of c text) (read_ending fault))
taken_at_end c text r was is (Ok u) takes h =
    let a = answer_is (as_list (answer_to_end r)) (λ more. TakesMore more was is) takes in
    (h.0 ++ a.0, ends_so c text h.0 r (Ok a.0) h.1 a.1, a.2 c h.0 h.2)
taken_at_end c text r was is (Err fault) takes h =
    same_fault (as_list (answer_to_end r)) (lines_of c text) fault takes (λ met e. ends_so c text h.0 r (Err met) h.1 e)

-- before the first piece
pub taken_first : (c : RadioConfig) (r : ReaderView) (taken : List Line → Type 0) → r ≡ new_reader (bssids_of c)
    → taken [] → AreTakenSoFar c [] r taken
taken_first c r taken new none =
    ([], rw new (read-nothing c), none)
