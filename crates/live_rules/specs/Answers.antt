-- What is answered to what is said.
use Rattle.std.specs.Prelude.{ℕ, ◌+◌, ◌≡◌, List, [], ◌∷◌, Option, Some, None, Ok, Err, ◌++◌}
use Rattle.std.specs.Prelude.{IfSome}
use Rattle.std.specs.List.{AllByRecursion}
use Rattle.network.specs.NetworkView.{NetworkState}
use Rattle.events.specs.declared.line.Line.{Line}
use Rattle.network.specs.declared.network.NetworkRefusal.TheVariants.{NoMemory, Clock}
use Rattle.trace.specs.declared.fault.LineFault.{LineFault}
use Rattle.live_rules.specs.Asked.{Asked, ForTables, Says}
use Rattle.live_rules.specs.Dispatch.{event_at}
use Rattle.live_rules.specs.Moments.{Moment, one_line_more, Reply, Sends, Refuses, reply_if, MayReplyIf, taken_if}
use Rattle.live_rules.specs.Moments.{after_if}

-- ---- what is answered

-- Nothing, to a line that is skipped; by place, the reply of each network to which the line is an event; the networks
-- of the moment; or a fault.
pub data Answer : Type 0 where
  Nothing : Answer
  Replies : List (Option Reply) → Answer
  Tables : List NetworkState → Answer
  Faulty : LineFault → Answer

-- ---- the networks from a place on

-- the reply of each to the event that a line is to it, where memory suffices
abbrev pub replies_from : ℕ → List NetworkState → Line → List (Option Reply)
replies_from place [] line = []
replies_from place (n ∷ ns) line = reply_if n (event_at place n line) ∷ replies_from (place + 1) ns line

-- Each network takes or refuses its event, whatever the others do.
abbrev pub MayReplyFrom : ℕ → List NetworkState → Line → List (Option Reply) → Type 0
MayReplyFrom place [] line replies = replies ≡ []
MayReplyFrom place (n ∷ ns) line [] = ⊥
MayReplyFrom place (n ∷ ns) line (reply ∷ replies) =
    MayReplyIf n (event_at place n line) reply × MayReplyFrom (place + 1) ns line replies

-- each network after the event that it took, and the others as they were
abbrev pub after_line_from : ℕ → List NetworkState → Line → List (Option Reply) → List NetworkState
after_line_from place (n ∷ ns) line (reply ∷ replies) =
    after_if n (taken_if (event_at place n line) reply) ∷ after_line_from (place + 1) ns line replies
after_line_from place ns line replies = ns

-- ---- one line

-- where memory suffices
abbrev pub answer_of : Moment → Asked → Answer
answer_of m ForTables = Tables m.networks
answer_of m (Says (Ok None)) = Nothing
answer_of m (Says (Ok (Some line))) = Replies (replies_from 0 m.networks line)
answer_of m (Says (Err fault)) = Faulty fault

-- Reading takes no memory, so that nothing stays unread. Each network may refuse a line where memory runs out.
abbrev pub MayAnswer : Moment → Asked → Answer → Type 0
MayAnswer m (Says (Ok (Some line))) (Replies replies) = MayReplyFrom 0 m.networks line replies
MayAnswer m asked answer = answer ≡ answer_of m asked

-- the moment after it: only the networks that took the line have changed
abbrev pub after_answer : Moment → Asked → Answer → Moment
after_answer m (Says (Ok (Some line))) (Replies replies) =
    record (one_line_more m) { networks = after_line_from 0 m.networks line replies }
after_answer m asked answer = one_line_more m

-- ---- all that is said, the first of it first

-- The answers to what is said, from one moment to another.
abbrev pub Answers : Moment → List Asked → List Answer → Moment → Type 0
Answers m [] [] next = next ≡ m
Answers m [] (answer ∷ answers) next = ⊥
Answers m (asked ∷ said) [] next = ⊥
Answers m (asked ∷ said) (answer ∷ answers) next =
    MayAnswer m asked answer × Answers (after_answer m asked answer) said answers next

-- where memory suffices for all of it
abbrev pub answers_of : Moment → List Asked → List Answer
answers_of m [] = []
answers_of m (asked ∷ said) =
    let answer = answer_of m asked in
    answer ∷ answers_of (after_answer m asked answer) said

-- ---- memory that suffices

-- a reply that does not refuse for memory
abbrev pub HasMemory : Reply → Type 0
HasMemory (Sends air wire) = Unit {0}
HasMemory (Refuses NoMemory) = ⊥
HasMemory (Refuses Clock) = Unit {0}

-- nothing was refused for memory
abbrev pub IsUnrefused : Answer → Type 0
IsUnrefused Nothing = Unit {0}
IsUnrefused (Replies replies) = AllByRecursion (λ reply. IfSome reply HasMemory) replies
IsUnrefused (Tables networks) = Unit {0}
IsUnrefused (Faulty fault) = Unit {0}

-- nothing was refused for memory in any of them
abbrev pub AreUnrefused : List Answer → Type 0
AreUnrefused answers = AllByRecursion IsUnrefused answers

-- ---- more that is said

-- what is said first, and what is said then
pub record InTwo : Type 0 where
  pub said : List Asked
  pub more : List Asked

-- this first, and then that
abbrev pub in_two : List Asked → List Asked → InTwo
in_two said more = record { said = said; more = more }

-- the answers to both: those to the first, which lead to a moment, and then those to the rest
pub record Begins (m : Moment) (parts : InTwo) (answers : List Answer) (next : Moment) : Type 0 where
  pub some : List Answer
  pub others : List Answer
  pub between : Moment
  pub all : answers ≡ some ++ others
  pub first : Answers m parts.said some between
  pub later : Answers between parts.more others next
