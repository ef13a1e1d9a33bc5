-- First sendings are in the order in which frames came.
use Rattle.std.proofs.Common.{◌≡◌, ℕ, Bool, true, false, ◌&&◌, not, List, [], ◌∷◌, ◌++◌, length, map, Option, Some}
use Rattle.std.proofs.Common.{None, refl, ap, sym, ◌∙◌, append_assoc, append-nil, subst}
use Rattle.std.specs.Prelude.{nat_lt, if◌then◌else◌}
use Rattle.std.specs.Option.{option_map, option_to_list}
use Rattle.downlink.specs.declared.frame.Frame.{Frame}
use Rattle.downlink.specs.declared.frame.Sent.{Sent}
use Rattle.downlink.specs.declared.frame.Way.{Way}
use Rattle.downlink.specs.declared.frame.Way.TheVariants.{InTurn, AnswersPoll, GoesBack, IsDropped}
use Rattle.downlink.specs.declared.answer.Answer.{Answer}
use Rattle.downlink.specs.declared.answer.Fate.{Fate}
use Rattle.downlink.specs.declared.answer.Fate.TheVariants.{WaitsAgain, Lost, HandedBack, Late, Crowded, GivenUp}
use Rattle.downlink.specs.declared.station_mode.StationMode.{StationMode}
use Rattle.downlink.specs.declared.station_mode.StationMode.TheVariants.{Absent, Awake, FallsAsleep, Dozing}
use Rattle.downlink.specs.Receiver.{Queue, new_queue, first_that, without_first, first_by, for_first_time}
use Rattle.downlink.specs.Receiver.{waiting_without, takes_way, goes, way_goes, within, crowded_out}
use Rattle.downlink.specs.Receiver.{frame_that_comes, sent_another_way, next_sent, without_next, turn_answer}
use Rattle.downlink.specs.Receiver.{after_turn, unsent_fate, sending_fate, fate_answer}
use Rattle.downlink.specs.Receiver.{has_ticket, may_go_again, told_answer, after_told, is_asleep, next_leaving}
use Rattle.downlink.specs.Receiver.{leaving_answer, leaving_fate, giving_up_answer, in_mode, after_dozing, after_settling}
use Rattle.downlink.specs.Receiver.{after_waking, after_polling}
use Rattle.downlink.specs.Calls.{Call, Comes, Turn, Told, Returns, GivesUp, Joins, Leaves, Dozes, Settles, Wakes, Polls}
use Rattle.downlink.specs.Calls.{step, answer, after, answers}
use Rattle.downlink.specs.Laws.{goes_first, IsWithin, ticket_if, came_by, came, went, IsInOrder}
use Rattle.downlink.proofs.Lists.{within_same, within_after, within_before, within_more, within_front, within_both}
use Rattle.downlink.proofs.Lists.{ticket_within}

-- the tickets that wait and go in their turn
abbrev pub in_turn : List Frame → List ℕ
in_turn [] = []
in_turn (f ∷ fs) = ticket_if (goes f) f.ticket ++ in_turn fs

-- the tickets that a call tells to go for the first time
abbrev pub went_by : Option Answer → List ℕ
went_by answered = went (option_to_list answered)

in_turn-append : (fs gs : List Frame) → in_turn (fs ++ gs) ≡ in_turn fs ++ in_turn gs
in_turn-append [] gs = refl
in_turn-append (f ∷ fs) gs =
    ap (λ ts. ticket_if (goes f) f.ticket ++ ts) (in_turn-append fs gs)
    ∙ sym (append_assoc (ticket_if (goes f) f.ticket) (in_turn fs) (in_turn gs))

-- ---- a frame comes

crowding_is_quiet : (most : ℕ) (fs : List Frame) → went_by (crowded_out most fs) ≡ []
crowding_is_quiet most [] = refl
crowding_is_quiet most (f ∷ fs) =
    elim (nat_lt most (length (f ∷ fs))) as (λ b. went_by (if b then Some (fate_answer Crowded f) else None) ≡ [])
    [ true ↦ refl | false ↦ refl ]

crowding_in_order : (most : ℕ) (fs : List Frame) → IsWithin (in_turn (within most fs)) (in_turn fs)
crowding_in_order most [] = refl
crowding_in_order most (f ∷ fs) =
    elim (nat_lt most (length (f ∷ fs))) as (λ b. IsWithin (in_turn (if b then fs else f ∷ fs)) (in_turn (f ∷ fs))) [
      | true ↦ within_more (ticket_if (goes f) f.ticket) (in_turn fs) (in_turn fs) (within_same (in_turn fs))
      | false ↦ within_same (in_turn (f ∷ fs))
    ]

coming_in_order : (most : ℕ) (fs : List Frame) (f : Frame)
    → IsWithin (went_by (crowded_out most (fs ++ f ∷ [])) ++ in_turn (within most (fs ++ f ∷ []))) (in_turn fs ++ f.ticket ∷ [])
coming_in_order most fs f =
    let all : List Frame = fs ++ f ∷ [] in
    let here : IsWithin (in_turn all) (in_turn fs ++ f.ticket ∷ []) =
    rw (in_turn-append fs (f ∷ [])) (within_after (in_turn fs) (in_turn (f ∷ [])) (f.ticket ∷ []) (ticket_within (goes f) f.ticket)) in
    rw (crowding_is_quiet most all)
    (within_both (in_turn (within most all)) (in_turn all) (in_turn fs ++ f.ticket ∷ []) (crowding_in_order most all) here)

-- ---- the receiver's turn

option_tickets : Option Frame → List ℕ
option_tickets None = []
option_tickets (Some f) = f.ticket ∷ []

first_in_turn : (fs : List Frame)
    → in_turn fs ≡ option_tickets (first_that (takes_way true) fs) ++ in_turn (without_first (takes_way true) fs)
unfolding option_tickets
first_in_turn [] = refl
first_in_turn (f ∷ fs) =
    let one : (b : Bool) → goes f ≡ b → in_turn (f ∷ fs)
    ≡ option_tickets (first_that (takes_way true) (f ∷ fs)) ++ in_turn (without_first (takes_way true) (f ∷ fs)) =
    λ b. elim b as (λ v. goes f ≡ v → in_turn (f ∷ fs)
    ≡ option_tickets (first_that (takes_way true) (f ∷ fs)) ++ in_turn (without_first (takes_way true) (f ∷ fs)))
    [ true ↦ (λ e. rw e refl) | false ↦ (λ e. rw (e, e) (first_in_turn fs)) ] in
    one (goes f) refl

-- without a frame that doesn't go
others_in_turn : (fs : List Frame) → in_turn (without_first (takes_way false) fs) ≡ in_turn fs
others_in_turn [] = refl
others_in_turn (f ∷ fs) =
    let one : (b : Bool) → goes f ≡ b → in_turn (without_first (takes_way false) (f ∷ fs)) ≡ in_turn (f ∷ fs) =
    λ b. elim b as (λ v. goes f ≡ v → in_turn (without_first (takes_way false) (f ∷ fs)) ≡ in_turn (f ∷ fs))
    [ true ↦ (λ e. rw (e, e) (ap (λ ts. f.ticket ∷ ts) (others_in_turn fs))) | false ↦ (λ e. rw e refl) ] in
    one (goes f) refl

-- the ticket that goes next, where it goes for the first time
abbrev pub first_ticket : Option Sent → List ℕ
first_ticket None = []
first_ticket (Some s) = ticket_if (not s.is_again) s.frame.ticket

fresh_ticket : (o : Option Frame) → first_ticket (option_map for_first_time o) ≡ option_tickets o
unfolding option_tickets
fresh_ticket None = refl
fresh_ticket (Some f) = refl

waiting_in_order : (fs : List Frame)
    → IsWithin (first_ticket (option_map for_first_time (first_that (takes_way true) fs)) ++ in_turn (without_first (takes_way true) fs)) (in_turn fs)
waiting_in_order fs =
    rw (fresh_ticket (first_that (takes_way true) fs), ← first_in_turn fs) (within_same (in_turn fs))

next_in_order : (again : Option Frame) (fs : List Frame)
    → IsWithin (first_ticket (first_by (takes_way true) again fs) ++ in_turn (waiting_without (takes_way true) again fs)) (in_turn fs)
next_in_order None fs = waiting_in_order fs
next_in_order (Some f) fs =
    elim (goes f) as (λ b. IsWithin
    (first_ticket (if b then Some (record { frame = f; is_again = true }) else option_map for_first_time (first_that (takes_way true) fs))
    ++ in_turn (if b then fs else without_first (takes_way true) fs)) (in_turn fs))
    [ true ↦ within_same (in_turn fs) | false ↦ waiting_in_order fs ]

unsent_is_quiet : (what : Fate) (mode : StationMode) (f : Frame) → goes_first what ≡ false
    → goes_first (unsent_fate what mode f) ≡ false
unsent_is_quiet what mode f h =
    elim (f.is_unit && is_asleep mode) as (λ b. goes_first (if b then HandedBack else what) ≡ false) [ true ↦ refl | false ↦ h ]

first_sending : (s : Sent) → goes_first (sending_fate s) ≡ not s.is_again
first_sending s =
    elim s.is_again as (λ b. goes_first (sending_fate (record s { is_again = b })) ≡ not b) [ true ↦ refl | false ↦ refl ]

-- one whose turn it is goes, or is too late
turn_within : (now : ℕ) (mode : StationMode) (s : Sent) (ts : List ℕ)
    → IsWithin (went_by (turn_answer now mode (Some s)) ++ ts) (first_ticket (Some s) ++ ts)
turn_within now mode s ts =
    elim (nat_lt s.frame.until now) as (λ b. IsWithin
    (went_by (if b then Some (fate_answer (unsent_fate Late mode s.frame) s.frame) else Some (fate_answer (sending_fate s) s.frame)) ++ ts)
    (first_ticket (Some s) ++ ts)) [
      | true ↦ rw (unsent_is_quiet Late mode s.frame refl) (within_more (first_ticket (Some s)) ts ts (within_same ts))
      | false ↦ rw (first_sending s, append-nil (ticket_if (not s.is_again) s.frame.ticket)) (within_same (first_ticket (Some s) ++ ts))
    ]

turn_leaves : (now : ℕ) (q : Queue) (s : Sent)
    → (after_turn now q (Some s)).waiting ≡ waiting_without (takes_way true) q.again q.waiting
turn_leaves now q s =
    elim (nat_lt s.frame.until now) as (λ b.
    (if b then without_next q else record (without_next q) { out = q.out ++ s ∷ []; last = Some s.frame.ticket }).waiting
    ≡ waiting_without (takes_way true) q.again q.waiting) [ true ↦ refl | false ↦ refl ]

abbrev pub InOrder : Queue → List ℕ → Queue → Option Answer → Type 0
InOrder q came later answered = IsWithin (went_by answered ++ in_turn later.waiting) (in_turn q.waiting ++ came)

-- nothing comes or goes, and no further frame is to go
quiet : (q later : Queue) (answered : Option Answer) → went_by answered ≡ [] → IsWithin (in_turn later.waiting) (in_turn q.waiting)
    → InOrder q [] later answered
quiet q later answered e h = rw (e, append-nil (in_turn q.waiting)) h

turned_in_order : (now : ℕ) (q : Queue) (s : Option Sent) → next_sent q ≡ s
    → InOrder q [] (after_turn now q s) (turn_answer now q.mode s)
turned_in_order now q None e = quiet q q None refl (within_same (in_turn q.waiting))
turned_in_order now q (Some s) e =
    let left : List ℕ = in_turn (waiting_without (takes_way true) q.again q.waiting) in
    let here : IsWithin (first_ticket (Some s) ++ left) (in_turn q.waiting) =
    subst (λ (o : Option Sent). IsWithin (first_ticket o ++ left) (in_turn q.waiting)) e (next_in_order q.again q.waiting) in
    rw (turn_leaves now q s, append-nil (in_turn q.waiting))
    (within_both (went_by (turn_answer now q.mode (Some s)) ++ left) (first_ticket (Some s) ++ left) (in_turn q.waiting)
    (turn_within now q.mode s left) here)

-- ---- what became of one is told, and what doesn't go leaves

loss_is_quiet : (b : Bool) (mode : StationMode) (f : Frame)
    → went_by (Some (if b then fate_answer WaitsAgain f else fate_answer (unsent_fate Lost mode f) f)) ≡ []
loss_is_quiet true mode f = refl
loss_is_quiet false mode f = rw (unsent_is_quiet Lost mode f refl) refl

told_in_order : (ticket : ℕ) (is_acknowledged : Bool) (q : Queue) (s : Option Sent)
    → InOrder q [] (after_told ticket is_acknowledged q s) (told_answer is_acknowledged q s)
told_in_order ticket is_acknowledged q None = quiet q q None refl (within_same (in_turn q.waiting))
told_in_order ticket true q (Some s) =
    quiet q (after_told ticket true q (Some s)) (told_answer true q (Some s)) refl (within_same (in_turn q.waiting))
told_in_order ticket false q (Some s) =
    quiet q (after_told ticket false q (Some s)) (told_answer false q (Some s)) (loss_is_quiet (may_go_again q s) q.mode s.frame)
    (within_same (in_turn q.waiting))

leaving_is_quiet : (way : Way) → goes_first (leaving_fate way) ≡ false
leaving_is_quiet InTurn = refl
leaving_is_quiet AnswersPoll = refl
leaving_is_quiet GoesBack = refl
leaving_is_quiet IsDropped = refl

return_is_quiet : (s : Option Sent) → went_by (option_map leaving_answer s) ≡ []
return_is_quiet None = refl
return_is_quiet (Some s) = rw (leaving_is_quiet s.frame.way) refl

others_in_order : (fs : List Frame) → IsWithin (in_turn (without_first (takes_way false) fs)) (in_turn fs)
others_in_order fs = rw (others_in_turn fs) (within_same (in_turn fs))

leaving_in_order : (again : Option Frame) (fs : List Frame)
    → IsWithin (in_turn (waiting_without (takes_way false) again fs)) (in_turn fs)
leaving_in_order None fs = others_in_order fs
leaving_in_order (Some f) fs =
    elim (takes_way false f) as (λ b. IsWithin (in_turn (if b then fs else without_first (takes_way false) fs)) (in_turn fs))
    [ true ↦ within_same (in_turn fs) | false ↦ others_in_order fs ]

-- ---- its caller gives the next one up

giving_up_is_quiet : (mode : StationMode) (s : Option Sent) → went_by (option_map (giving_up_answer mode) s) ≡ []
giving_up_is_quiet mode None = refl
giving_up_is_quiet mode (Some s) = rw (unsent_is_quiet GivenUp mode s.frame refl) refl

giving_up_in_order : (again : Option Frame) (fs : List Frame)
    → IsWithin (in_turn (waiting_without (takes_way true) again fs)) (in_turn fs)
giving_up_in_order again fs =
    let front : List ℕ = first_ticket (first_by (takes_way true) again fs) in
    let rest : List ℕ = in_turn (waiting_without (takes_way true) again fs) in
    within_both rest (front ++ rest) (in_turn fs) (within_more front rest rest (within_same rest)) (next_in_order again fs)

-- ---- the station changes its mode

another_way : (way : Way) → way_goes way ≡ false → (f : Frame) (ts us : List ℕ) → IsWithin ts us
    → IsWithin (ticket_if (goes (sent_another_way way f)) (sent_another_way way f).ticket ++ ts) (ticket_if (goes f) f.ticket ++ us)
another_way way h f ts us l =
    elim f.is_unit as (λ b. let g : Frame = (if b then record f { way = way } else f) in
    IsWithin (ticket_if (goes g) g.ticket ++ ts) (ticket_if (goes f) f.ticket ++ us)) [
      | true ↦ rw h (within_more (ticket_if (goes f) f.ticket) ts us l)
      | false ↦ within_after (ticket_if (goes f) f.ticket) ts us l
    ]

ways_in_order : (way : Way) → way_goes way ≡ false → (fs : List Frame)
    → IsWithin (in_turn (map (sent_another_way way) fs)) (in_turn fs)
ways_in_order way h [] = refl
ways_in_order way h (f ∷ fs) =
    another_way way h f (in_turn (map (sent_another_way way) fs)) (in_turn fs) (ways_in_order way h fs)

mode_in_order : (mode : StationMode) (way : Way) → way_goes way ≡ false → (q : Queue) → InOrder q [] (in_mode mode way q) None
mode_in_order mode way h q = quiet q (in_mode mode way q) None refl (ways_in_order way h q.waiting)

same_in_order : (q later : Queue) → later.waiting ≡ q.waiting → InOrder q [] later None
same_in_order q later e = quiet q later None refl (rw e (within_same (in_turn q.waiting)))

dozes_in_order : (mode : StationMode) (q : Queue) → InOrder q [] (after_dozing mode q) None
dozes_in_order Absent q = same_in_order q q refl
dozes_in_order Awake q = mode_in_order FallsAsleep GoesBack refl q
dozes_in_order FallsAsleep q = mode_in_order FallsAsleep GoesBack refl q
dozes_in_order Dozing q = mode_in_order FallsAsleep GoesBack refl q

settles_in_order : (mode : StationMode) (q : Queue) → (after_settling mode q).waiting ≡ q.waiting
settles_in_order Absent q = refl
settles_in_order Awake q = refl
settles_in_order FallsAsleep q = refl
settles_in_order Dozing q = refl

wakes_in_order : (mode : StationMode) (q : Queue) → (after_waking mode q).waiting ≡ q.waiting
wakes_in_order Absent q = refl
wakes_in_order Awake q = refl
wakes_in_order FallsAsleep q = refl
wakes_in_order Dozing q = refl

polls_in_order : (until : ℕ) (mode : StationMode) (q : Queue) → (after_polling until mode q).waiting ≡ q.waiting
polls_in_order until Absent q = refl
polls_in_order until Awake q = refl
polls_in_order until FallsAsleep q = refl
polls_in_order until Dozing q = refl

-- ---- one call, and any number of them

step_in_order : (q : Queue) (call : Call) → InOrder q (came_by call) (step q call) (answer q call)
step_in_order q (Comes ticket is_unit until now) =
    coming_in_order q.most q.waiting (frame_that_comes ticket is_unit until now q)
step_in_order q (Turn now) = turned_in_order now q (next_sent q) refl
step_in_order q (Told ticket is_acknowledged) =
    told_in_order ticket is_acknowledged q (first_that (has_ticket ticket) q.out)
step_in_order q Returns =
    quiet q (step q Returns) (answer q Returns) (return_is_quiet (next_leaving q)) (leaving_in_order q.again q.waiting)
step_in_order q GivesUp =
    quiet q (step q GivesUp) (answer q GivesUp) (giving_up_is_quiet q.mode (next_sent q)) (giving_up_in_order q.again q.waiting)
step_in_order q Joins = same_in_order q (step q Joins) refl
step_in_order q Leaves = mode_in_order Absent IsDropped refl q
step_in_order q Dozes = dozes_in_order q.mode q
step_in_order q Settles = same_in_order q (step q Settles) (settles_in_order q.mode q)
step_in_order q Wakes = same_in_order q (step q Wakes) (wakes_in_order q.mode q)
step_in_order q (Polls until) = same_in_order q (step q (Polls until)) (polls_in_order until q.mode q)

went-append : (front bs : List Answer) → went (front ++ bs) ≡ went front ++ went bs
went-append [] bs = refl
went-append (a ∷ front) bs =
    ap (λ ts. ticket_if (goes_first a.fate) a.frame.ticket ++ ts) (went-append front bs)
    ∙ sym (append_assoc (ticket_if (goes_first a.fate) a.frame.ticket) (went front) (went bs))

calls_in_order : (q : Queue) (calls : List Call)
    → IsWithin (went (answers q calls) ++ in_turn (after q calls).waiting) (in_turn q.waiting ++ came calls)
calls_in_order q [] = rw (append-nil (in_turn q.waiting)) (within_same (in_turn q.waiting))
calls_in_order q (call ∷ calls) =
    let now : List ℕ = went_by (answer q call) in
    let next : Queue = step q call in
    let rest : List ℕ = went (answers next calls) in
    let last : List ℕ = in_turn (after next calls).waiting in
    let later : IsWithin (now ++ (rest ++ last)) (now ++ (in_turn next.waiting ++ came calls)) =
    within_after now (rest ++ last) (in_turn next.waiting ++ came calls) (calls_in_order next calls) in
    let first : IsWithin ((now ++ in_turn next.waiting) ++ came calls) ((in_turn q.waiting ++ came_by call) ++ came calls) =
    within_before (now ++ in_turn next.waiting) (in_turn q.waiting ++ came_by call) (came calls) (step_in_order q call) in
    let one : IsWithin (now ++ (rest ++ last)) (in_turn q.waiting ++ (came_by call ++ came calls)) =
    within_both (now ++ (rest ++ last)) (now ++ (in_turn next.waiting ++ came calls)) (in_turn q.waiting ++ (came_by call ++ came calls))
    later (rw (append_assoc now (in_turn next.waiting) (came calls), append_assoc (in_turn q.waiting) (came_by call) (came calls)) at first) in
    rw (went-append (option_to_list (answer q call)) (answers next calls), append_assoc now rest last) one

pub is_in_order : IsInOrder
is_in_order most calls =
    let q : Queue = new_queue most in
    let sent : List ℕ = went (answers q calls) in
    within_both sent (sent ++ in_turn (after q calls).waiting) (came calls) (within_front sent (in_turn (after q calls).waiting))
    (calls_in_order q calls)
