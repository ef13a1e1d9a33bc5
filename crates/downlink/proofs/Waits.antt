-- Frames wait in the order in which they came.
use Rattle.std.proofs.Common.{◌≡◌, ℕ, Bool, true, false, List, [], ◌∷◌, ◌++◌, length, map, Option, Some, None, refl, ap}
use Rattle.std.proofs.Common.{append_assoc, append-nil}
use Rattle.std.proofs.lemmas.List.{map-append}
use Rattle.std.specs.Prelude.{nat_lt, if◌then◌else◌}
use Rattle.downlink.specs.declared.frame.Frame.{Frame}
use Rattle.downlink.specs.declared.frame.Sent.{Sent}
use Rattle.downlink.specs.declared.frame.Way.{Way}
use Rattle.downlink.specs.declared.frame.Way.TheVariants.{GoesBack, IsDropped}
use Rattle.downlink.specs.declared.station_mode.StationMode.{StationMode}
use Rattle.downlink.specs.declared.station_mode.StationMode.TheVariants.{Absent, Awake, FallsAsleep, Dozing}
use Rattle.downlink.specs.Receiver.{Queue, new_queue, without_first, waiting_without, takes_way, within}
use Rattle.downlink.specs.Receiver.{frame_that_comes}
use Rattle.downlink.specs.Receiver.{sent_another_way, next_sent, without_next, after_turn, first_that, has_ticket}
use Rattle.downlink.specs.Receiver.{after_told}
use Rattle.downlink.specs.Receiver.{after_dozing, after_settling, after_waking, after_polling}
use Rattle.downlink.specs.Calls.{Call, Comes, Turn, Told, Returns, GivesUp, Joins, Leaves, Dozes, Settles, Wakes, Polls}
use Rattle.downlink.specs.Calls.{step, after}
use Rattle.downlink.specs.Laws.{IsWithin, tickets, came_by, came, WaitsInOrder}
use Rattle.downlink.proofs.Lists.{within_same, within_after, within_before, within_more, within_both}

fewer : (test : Frame → Bool) (fs : List Frame) → IsWithin (tickets (without_first test fs)) (tickets fs)
fewer test [] = refl
fewer test (f ∷ fs) =
    elim (test f) as (λ b. IsWithin (tickets (if b then fs else f ∷ without_first test fs)) (tickets (f ∷ fs))) [
      | true ↦ within_more (f.ticket ∷ []) (tickets fs) (tickets fs) (within_same (tickets fs))
      | false ↦ within_after (f.ticket ∷ []) (tickets (without_first test fs)) (tickets fs) (fewer test fs)
    ]

fewer_wait : (test : Frame → Bool) (again : Option Frame) (fs : List Frame)
    → IsWithin (tickets (waiting_without test again fs)) (tickets fs)
fewer_wait test None fs = fewer test fs
fewer_wait test (Some f) fs =
    elim (test f) as (λ b. IsWithin (tickets (if b then fs else without_first test fs)) (tickets fs))
    [ true ↦ within_same (tickets fs) | false ↦ fewer test fs ]

room_is_made : (most : ℕ) (fs : List Frame) → IsWithin (tickets (within most fs)) (tickets fs)
room_is_made most [] = refl
room_is_made most (f ∷ fs) =
    elim (nat_lt most (length (f ∷ fs))) as (λ b. IsWithin (tickets (if b then fs else f ∷ fs)) (tickets (f ∷ fs))) [
      | true ↦ within_more (f.ticket ∷ []) (tickets fs) (tickets fs) (within_same (tickets fs))
      | false ↦ within_same (tickets (f ∷ fs))
    ]

same_ticket : (way : Way) (f : Frame) → (sent_another_way way f).ticket ≡ f.ticket
same_ticket way f =
    elim f.is_unit as (λ b. (if b then record f { way = way } else f).ticket ≡ f.ticket) [ true ↦ refl | false ↦ refl ]

same_tickets : (way : Way) (fs : List Frame) → tickets (map (sent_another_way way) fs) ≡ tickets fs
same_tickets way [] = refl
same_tickets way (f ∷ fs) = rw (same_ticket way f) (ap (λ ts. f.ticket ∷ ts) (same_tickets way fs))

-- what waits later is some of what waits now, and what comes
abbrev pub Keeps : Queue → List ℕ → Queue → Type 0
Keeps q more later = IsWithin (tickets later.waiting) (tickets q.waiting ++ more)

all_same : (q later : Queue) → tickets later.waiting ≡ tickets q.waiting → Keeps q [] later
all_same q later e = rw (e, append-nil (tickets q.waiting)) (within_same (tickets q.waiting))

some_leave : (q later : Queue) → IsWithin (tickets later.waiting) (tickets q.waiting) → Keeps q [] later
some_leave q later h = rw (append-nil (tickets q.waiting)) h

turn_keeps : (now : ℕ) (q : Queue) (s : Option Sent) → Keeps q [] (after_turn now q s)
turn_keeps now q None = all_same q q refl
turn_keeps now q (Some s) =
    elim (nat_lt s.frame.until now) as (λ b. Keeps q []
    (if b then without_next q else record (without_next q) { out = q.out ++ s ∷ []; last = Some s.frame.ticket })) [
      | true ↦ some_leave q (without_next q) (fewer_wait (takes_way true) q.again q.waiting)
      | false ↦ some_leave q (without_next q) (fewer_wait (takes_way true) q.again q.waiting)
    ]

told_keeps : (ticket : ℕ) (is_acknowledged : Bool) (q : Queue) (s : Option Sent) → Keeps q [] (after_told ticket is_acknowledged q s)
told_keeps ticket is_acknowledged q None = all_same q q refl
told_keeps ticket true q (Some s) = all_same q q refl
told_keeps ticket false q (Some s) = all_same q q refl

dozes_keeps : (mode : StationMode) (q : Queue) → Keeps q [] (after_dozing mode q)
dozes_keeps Absent q = all_same q q refl
dozes_keeps Awake q = all_same q (after_dozing Awake q) (same_tickets GoesBack q.waiting)
dozes_keeps FallsAsleep q = all_same q (after_dozing FallsAsleep q) (same_tickets GoesBack q.waiting)
dozes_keeps Dozing q = all_same q (after_dozing Dozing q) (same_tickets GoesBack q.waiting)

settles_keeps : (mode : StationMode) (q : Queue) → Keeps q [] (after_settling mode q)
settles_keeps Absent q = all_same q q refl
settles_keeps Awake q = all_same q q refl
settles_keeps FallsAsleep q = all_same q q refl
settles_keeps Dozing q = all_same q q refl

wakes_keeps : (mode : StationMode) (q : Queue) → Keeps q [] (after_waking mode q)
wakes_keeps Absent q = all_same q q refl
wakes_keeps Awake q = all_same q q refl
wakes_keeps FallsAsleep q = all_same q q refl
wakes_keeps Dozing q = all_same q q refl

polls_keeps : (until : ℕ) (mode : StationMode) (q : Queue) → Keeps q [] (after_polling until mode q)
polls_keeps until Absent q = all_same q q refl
polls_keeps until Awake q = all_same q q refl
polls_keeps until FallsAsleep q = all_same q q refl
polls_keeps until Dozing q = all_same q q refl

comes_keeps : (q : Queue) (f : Frame) → IsWithin (tickets (within q.most (q.waiting ++ f ∷ []))) (tickets q.waiting ++ f.ticket ∷ [])
comes_keeps q f =
    rw (← map-append (λ (g : Frame). g.ticket) q.waiting (f ∷ [])) (room_is_made q.most (q.waiting ++ f ∷ []))

step_keeps : (q : Queue) (call : Call) → Keeps q (came_by call) (step q call)
step_keeps q (Comes ticket is_unit until now) = comes_keeps q (frame_that_comes ticket is_unit until now q)
step_keeps q (Turn now) = turn_keeps now q (next_sent q)
step_keeps q (Told ticket is_acknowledged) = told_keeps ticket is_acknowledged q (first_that (has_ticket ticket) q.out)
step_keeps q Returns = some_leave q (step q Returns) (fewer_wait (takes_way false) q.again q.waiting)
step_keeps q GivesUp = some_leave q (step q GivesUp) (fewer_wait (takes_way true) q.again q.waiting)
step_keeps q Joins = all_same q q refl
step_keeps q Leaves = all_same q (step q Leaves) (same_tickets IsDropped q.waiting)
step_keeps q Dozes = dozes_keeps q.mode q
step_keeps q Settles = settles_keeps q.mode q
step_keeps q Wakes = wakes_keeps q.mode q
step_keeps q (Polls until) = polls_keeps until q.mode q

calls_keep : (q : Queue) (calls : List Call) → Keeps q (came calls) (after q calls)
calls_keep q [] = all_same q q refl
calls_keep q (call ∷ calls) =
    let next : Queue = step q call in
    let rest : IsWithin (tickets (after next calls).waiting) (tickets next.waiting ++ came calls) = calls_keep next calls in
    let first : IsWithin (tickets next.waiting ++ came calls) ((tickets q.waiting ++ came_by call) ++ came calls) =
    within_before (tickets next.waiting) (tickets q.waiting ++ came_by call) (came calls) (step_keeps q call) in
    rw (← append_assoc (tickets q.waiting) (came_by call) (came calls))
    (within_both (tickets (after next calls).waiting) (tickets next.waiting ++ came calls)
    ((tickets q.waiting ++ came_by call) ++ came calls) rest first)

pub waits_in_order : WaitsInOrder
waits_in_order most calls = calls_keep (new_queue most) calls
