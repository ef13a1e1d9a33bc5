-- What is answered where nothing is refused for memory.
use Rattle.std.proofs.Common.{◌≡◌, ℕ, ◌+◌, Bool, true, false, List, [], ◌∷◌, Option, Some, None, Ok, Err, refl, sym, ap, ◌∙◌}
use Rattle.std.specs.Prelude.{IfSome}
use Rattle.std.specs.List.{AllByRecursion}
use Rattle.network.specs.NetworkView.{NetworkState}
use Rattle.events.specs.declared.event.Event.{Event}
use Rattle.events.specs.declared.line.Line.{Line}
use Rattle.network.specs.declared.network.NetworkRefusal.TheVariants.{NoMemory, Clock}
use Rattle.live_rules.specs.Dispatch.{event_at}
use Rattle.live_rules.specs.Moments.{Moment, Reply, Sends, Refuses, is_past_clock, reply_of, MayReply, reply_if, MayReplyIf}
use Rattle.live_rules.specs.Asked.{Asked, ForTables, Says}
use Rattle.live_rules.specs.Answers.{Answer, Replies, replies_from, MayReplyFrom, answer_of, MayAnswer, after_answer, Answers, answers_of, HasMemory, IsUnrefused, AreUnrefused}

-- ---- what must be

reply-only : (n : NetworkState) (e : Event) (r : Reply) → MayReply n e r → HasMemory r → r ≡ reply_of n e
reply-only n e (Sends air wire) h k = h
reply-only n e (Refuses NoMemory) h k = absurd k
reply-only n e (Refuses Clock) h k = h

reply-if-only : (n : NetworkState) (event : Option Event) (reply : Option Reply) → MayReplyIf n event reply
    → IfSome reply HasMemory → reply ≡ reply_if n event
reply-if-only n None reply h k = h
reply-if-only n (Some e) None h k = absurd h
reply-if-only n (Some e) (Some r) h k = ap (λ (s : Reply). Some s) (reply-only n e r h k)

line-only : (place : ℕ) (ns : List NetworkState) (line : Line) (rs : List (Option Reply)) → MayReplyFrom place ns line rs
    → AllByRecursion (λ reply. IfSome reply HasMemory) rs → rs ≡ replies_from place ns line
line-only place [] line rs h k = h
line-only place (n ∷ ns) line [] h k = absurd h
line-only place (n ∷ ns) line (r ∷ rs) h k =
    λ i. reply-if-only n (event_at place n line) r h.0 k.0 i ∷ line-only (place + 1) ns line rs h.1 k.1 i

answer-only : (m : Moment) (asked : Asked) (answer : Answer) → MayAnswer m asked answer → IsUnrefused answer
    → answer ≡ answer_of m asked
answer-only m (Says (Ok (Some line))) (Replies rs) h k =
    ap (λ (r : List (Option Reply)). Replies r) (line-only 0 m.networks line rs h k)
answer-only m asked answer h k = h

pub answers-only : (m : Moment) (said : List Asked) (answers : List Answer) (next : Moment)
    → Answers m said answers next → AreUnrefused answers → answers ≡ answers_of m said
answers-only m [] [] next h k = refl
answers-only m [] (answer ∷ answers) next h k = absurd h
answers-only m (asked ∷ said) [] next h k = absurd h
answers-only m (asked ∷ said) (answer ∷ answers) next h k =
    ap (λ (rest : List Answer). answer ∷ rest) (answers-only (after_answer m asked answer) said answers next h.1 k.1)
    ∙ ap
    (λ (a : Answer). a ∷ answers_of (after_answer m asked a) said)
    (answer-only m asked answer h.0 k.0)

-- ---- that it may be, and that nothing is refused in it

reply-fits : (n : NetworkState) (e : Event) → MayReply n e (reply_of n e) × HasMemory (reply_of n e)
reply-fits n e = by (is_past_clock n e) refl
  where
    by : (b : Bool) → is_past_clock n e ≡ b → MayReply n e (reply_of n e) × HasMemory (reply_of n e)
    by true is = rw is (sym (rw is refl), tt)
    by false is = rw is (sym (rw is refl), tt)

reply-if-fits : (n : NetworkState) (event : Option Event)
    → MayReplyIf n event (reply_if n event) × IfSome (reply_if n event) HasMemory
reply-if-fits n None = (refl, tt)
reply-if-fits n (Some e) = reply-fits n e

line-fits : (place : ℕ) (ns : List NetworkState) (line : Line)
    → MayReplyFrom place ns line (replies_from place ns line)
    × AllByRecursion (λ reply. IfSome reply HasMemory) (replies_from place ns line)
line-fits place [] line = (refl, tt)
line-fits place (n ∷ ns) line =
    let one = reply-if-fits n (event_at place n line) in
    let others = line-fits (place + 1) ns line in
    ((one.0, others.0), (one.1, others.1))

answer-fits : (m : Moment) (asked : Asked) → MayAnswer m asked (answer_of m asked) × IsUnrefused (answer_of m asked)
answer-fits m ForTables = (refl, tt)
answer-fits m (Says (Ok None)) = (refl, tt)
answer-fits m (Says (Ok (Some line))) = line-fits 0 m.networks line
answer-fits m (Says (Err fault)) = (refl, tt)

pub answers-may : (m : Moment) (said : List Asked) → (next : Moment) × Answers m said (answers_of m said) next
answers-may m [] = (m, refl)
answers-may m (asked ∷ said) =
    let on = answers-may (after_answer m asked (answer_of m asked)) said in
    (on.0, ((answer-fits m asked).0, on.1))

pub answers-unrefused : (m : Moment) (said : List Asked) → AreUnrefused (answers_of m said)
answers-unrefused m [] = tt
answers-unrefused m (asked ∷ said) =
    ((answer-fits m asked).1, answers-unrefused (after_answer m asked (answer_of m asked)) said)
