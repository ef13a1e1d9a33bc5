-- Of the answers to a station's polls at most one is on its way.
use Rattle.std.proofs.Common.{◌≡◌, ◌≤◌, ℕ, ◌+◌, Bool, true, false, ◌&&◌, ◌||◌, List, [], ◌∷◌, ◌++◌, length, map, Option}
use Rattle.std.proofs.Common.{Some, None, refl, ap, arith}
use Rattle.std.specs.Prelude.{nat_lt, nat_le, is_some, if◌then◌else◌}
use Rattle.std.specs.Option.{option_map, option_to_list}
use Rattle.std.specs.List.{list_any}
use Rattle.downlink.specs.declared.frame.Frame.{Frame}
use Rattle.downlink.specs.declared.frame.Sent.{Sent}
use Rattle.downlink.specs.declared.frame.Way.{Way}
use Rattle.downlink.specs.declared.frame.Way.TheVariants.{AnswersPoll, GoesBack, IsDropped}
use Rattle.downlink.specs.declared.station_mode.StationMode.{StationMode}
use Rattle.downlink.specs.declared.station_mode.StationMode.TheVariants.{Absent, Awake, FallsAsleep, Dozing}
use Rattle.downlink.specs.Receiver.{Queue, new_queue, first_that, without_first, takes_way, without_by, within, has_ticket}
use Rattle.downlink.specs.Receiver.{frame_that_comes, way_of, right_beside, sent_another_way, next_sent, without_next}
use Rattle.downlink.specs.Receiver.{after_turn, after_told, may_go_again, in_mode, after_dozing, after_settling}
use Rattle.downlink.specs.Receiver.{after_waking, after_polling, way_answers, answers_poll, is_unit_sent, ignores_polls}
use Rattle.downlink.specs.Receiver.{right_after_poll}
use Rattle.downlink.specs.Calls.{Call, Comes, Turn, Told, Returns, GivesUp, Joins, Leaves, Dozes, Settles, Wakes, Polls}
use Rattle.downlink.specs.Calls.{step, after}
use Rattle.downlink.specs.Laws.{one_if, count, right_count, is_answer_sent, answers_on_their_way, AnswersOneAtATime}
use Rattle.downlink.proofs.Counts.{count-append, first_counted, next_counted}

-- a call brings no answer more
abbrev pub NoMore : Queue → Queue → Type 0
NoMore q later = answers_on_their_way later ≤ answers_on_their_way q

-- ---- a frame comes

crowding_answers : (most : ℕ) (fs : List Frame) → count answers_poll (within most fs) ≤ count answers_poll fs
crowding_answers most [] = omega arith
crowding_answers most (f ∷ fs) =
    elim (nat_lt most (length (f ∷ fs))) as (λ b. count answers_poll (if b then fs else f ∷ fs) ≤ count answers_poll (f ∷ fs))
    [ true ↦ omega arith | false ↦ omega arith ]

-- an answer that comes uses the right of a poll
right_used : (is_unit : Bool) (now : ℕ) (mode : StationMode) (right : Option ℕ)
    → let way = way_of is_unit now mode right in
    one_if (is_unit && way_answers way) + right_count (right_beside way right) ≤ right_count right
right_used false now mode right = omega arith
right_used true now Absent right = omega arith
right_used true now Awake right = omega arith
right_used true now FallsAsleep right = omega arith
right_used true now Dozing None = omega arith
right_used true now Dozing (Some until) =
    elim (nat_le now until) as (λ b. let way : Way = (if b then AnswersPoll else GoesBack) in
    one_if (way_answers way) + right_count (right_beside way (Some until)) ≤ 1)
    [ true ↦ omega arith | false ↦ omega arith ]

coming_answers : (ticket : ℕ) (is_unit : Bool) (until now : ℕ) (q : Queue) → NoMore q (step q (Comes ticket is_unit until now))
coming_answers ticket is_unit until now q =
    let f : Frame = frame_that_comes ticket is_unit until now q in
    omega (
      arith,
      crowding_answers q.most (q.waiting ++ f ∷ []),
      count-append answers_poll q.waiting (f ∷ []),
      right_used is_unit now q.mode q.right,
    )

-- ---- the receiver's turn, and frames that leave

leaving_answers : (goes : Bool) (q : Queue) → NoMore q (without_by (takes_way goes) q)
leaving_answers goes q = omega (arith, next_counted answers_poll (takes_way goes) q.again q.waiting)

turn_answers : (now : ℕ) (q : Queue) (s : Option Sent) → next_sent q ≡ s → NoMore q (after_turn now q s)
turn_answers now q None e = omega arith
turn_answers now q (Some s) e =
    let taken : count is_answer_sent (option_to_list (next_sent q)) ≡ one_if (answers_poll s.frame) + 0 =
    ap (λ o. count is_answer_sent (option_to_list o)) e in
    elim (nat_lt s.frame.until now) as (λ b. NoMore q
    (if b then without_next q else record (without_next q) { out = q.out ++ s ∷ []; last = Some s.frame.ticket })) [
      | true ↦ omega (arith, next_counted answers_poll (takes_way true) q.again q.waiting)
      | false ↦ omega (
        arith,
        next_counted answers_poll (takes_way true) q.again q.waiting,
        taken,
        count-append is_answer_sent q.out (s ∷ []),
      )
    ]

-- ---- what became of one is told

loss_answers : (ticket : ℕ) (q : Queue) (s : Sent) (again : Bool)
    → count is_answer_sent q.out ≡ count is_answer_sent (without_first (has_ticket ticket) q.out) + one_if (answers_poll s.frame)
    → NoMore q (record q {
      out = without_first (has_ticket ticket) q.out;
      again = if again then Some s.frame else q.again;
      last = if again then None else q.last;
    })
loss_answers ticket q s true e = omega (arith, e)
loss_answers ticket q s false e = omega (arith, e)

told_answers : (ticket : ℕ) (is_acknowledged : Bool) (q : Queue) (s : Option Sent) → first_that (has_ticket ticket) q.out ≡ s
    → NoMore q (after_told ticket is_acknowledged q s)
told_answers ticket is_acknowledged q None e = omega arith
told_answers ticket true q (Some s) e = omega (arith, first_counted is_answer_sent (has_ticket ticket) q.out)
told_answers ticket false q (Some s) e =
    let taken : count is_answer_sent (option_to_list (first_that (has_ticket ticket) q.out)) ≡ one_if (answers_poll s.frame) + 0 =
    ap (λ o. count is_answer_sent (option_to_list o)) e in
    loss_answers ticket q s (may_go_again q s) (omega (arith, taken, first_counted is_answer_sent (has_ticket ticket) q.out))

-- ---- the station changes its mode

and_false : (b : Bool) → (b && false) ≡ false
and_false true = refl
and_false false = refl

another_way : (way : Way) → way_answers way ≡ false → (f : Frame) → answers_poll (sent_another_way way f) ≡ false
another_way way h f =
    let one : (b : Bool) → f.is_unit ≡ b → answers_poll (sent_another_way way f) ≡ false =
    λ b. elim b as (λ v. f.is_unit ≡ v → answers_poll (sent_another_way way f) ≡ false)
    [ true ↦ (λ e. rw (e, h) refl) | false ↦ (λ e. rw e refl) ] in
    one f.is_unit refl

ways_answer : (way : Way) → way_answers way ≡ false → (fs : List Frame) → count answers_poll (map (sent_another_way way) fs) ≡ 0
ways_answer way h [] = refl
ways_answer way h (f ∷ fs) =
    let none : one_if (answers_poll (sent_another_way way f)) ≡ 0 = ap one_if (another_way way h f) in
    omega (arith, none, ways_answer way h fs)

again_answers : (way : Way) → way_answers way ≡ false → (again : Option Frame)
    → count answers_poll (option_to_list (option_map (sent_another_way way) again)) ≡ 0
again_answers way h None = refl
again_answers way h (Some f) =
    let none : one_if (answers_poll (sent_another_way way f)) ≡ 0 = ap one_if (another_way way h f) in
    omega (arith, none)

mode_answers : (mode : StationMode) (way : Way) → way_answers way ≡ false → (q : Queue) → NoMore q (in_mode mode way q)
mode_answers mode way h q = omega (arith, ways_answer way h q.waiting, again_answers way h q.again)

dozes_answers : (mode : StationMode) (q : Queue) → NoMore q (after_dozing mode q)
dozes_answers Absent q = omega arith
dozes_answers Awake q = mode_answers FallsAsleep GoesBack refl q
dozes_answers FallsAsleep q = mode_answers FallsAsleep GoesBack refl q
dozes_answers Dozing q = mode_answers FallsAsleep GoesBack refl q

settles_answers : (mode : StationMode) (q : Queue) → NoMore q (after_settling mode q)
settles_answers Absent q = omega arith
settles_answers Awake q = omega arith
settles_answers FallsAsleep q = omega arith
settles_answers Dozing q = omega arith

wakes_answers : (mode : StationMode) (q : Queue) → NoMore q (after_waking mode q)
wakes_answers Absent q = omega arith
wakes_answers Awake q = omega arith
wakes_answers FallsAsleep q = omega arith
wakes_answers Dozing q = omega arith

-- ---- the station polls

both_false : (a b : Bool) → (a || b) ≡ false → (a ≡ false) × (b ≡ false)
both_false true b h = absurd (cc)
both_false false b h = (refl, h)

none_waits : (fs : List Frame) → list_any answers_poll fs ≡ false → count answers_poll fs ≡ 0
none_waits [] h = refl
none_waits (f ∷ fs) h =
    let each = both_false (answers_poll f) (list_any answers_poll fs) h in
    omega (arith, ap one_if each.0, none_waits fs each.1)

none_waits_again : (again : Option Frame) → is_some again ≡ false → count answers_poll (option_to_list again) ≡ 0
none_waits_again None h = refl
none_waits_again (Some f) h = absurd (cc)

none_is_out : (out : List Sent) → list_any is_unit_sent out ≡ false → count is_answer_sent out ≡ 0
none_is_out [] h = refl
none_is_out (s ∷ out) h =
    let each = both_false (is_unit_sent s) (list_any is_unit_sent out) h in
    let none : is_answer_sent s ≡ false = ap (λ is_unit. is_unit && way_answers s.frame.way) each.0 in
    omega (arith, ap one_if none, none_is_out out each.1)

heard : (until : ℕ) (q : Queue) (is_ignored : Bool) → ignores_polls q ≡ is_ignored → answers_on_their_way q ≤ 1
    → answers_on_their_way (record q { right = right_after_poll until is_ignored q.right }) ≤ 1
heard until q true e h = h
heard until q false e h =
    let sent = both_false (list_any answers_poll q.waiting || is_some q.again) (list_any is_unit_sent q.out) e in
    let waits = both_false (list_any answers_poll q.waiting) (is_some q.again) sent.0 in
    omega (arith, none_waits q.waiting waits.0, none_waits_again q.again waits.1, none_is_out q.out sent.1)

polls_answers : (until : ℕ) (mode : StationMode) (q : Queue) → answers_on_their_way q ≤ 1
    → answers_on_their_way (after_polling until mode q) ≤ 1
polls_answers until Absent q h = h
polls_answers until Awake q h = h
polls_answers until FallsAsleep q h = h
polls_answers until Dozing q h = heard until q (ignores_polls q) refl h

-- ---- one call, and any number of them

step_answers : (q : Queue) (call : Call) → answers_on_their_way q ≤ 1 → answers_on_their_way (step q call) ≤ 1
step_answers q (Comes ticket is_unit until now) h = omega (arith, h, coming_answers ticket is_unit until now q)
step_answers q (Turn now) h = omega (arith, h, turn_answers now q (next_sent q) refl)
step_answers q (Told ticket is_acknowledged) h =
    omega (arith, h, told_answers ticket is_acknowledged q (first_that (has_ticket ticket) q.out) refl)
step_answers q Returns h = omega (arith, h, leaving_answers false q)
step_answers q GivesUp h = omega (arith, h, leaving_answers true q)
step_answers q Joins h = omega (arith, h)
step_answers q Leaves h = omega (arith, h, mode_answers Absent IsDropped refl q)
step_answers q Dozes h = omega (arith, h, dozes_answers q.mode q)
step_answers q Settles h = omega (arith, h, settles_answers q.mode q)
step_answers q Wakes h = omega (arith, h, wakes_answers q.mode q)
step_answers q (Polls until) h = polls_answers until q.mode q h

calls_answer : (q : Queue) (calls : List Call) → answers_on_their_way q ≤ 1 → answers_on_their_way (after q calls) ≤ 1
calls_answer q [] h = h
calls_answer q (call ∷ calls) h = calls_answer (step q call) calls (step_answers q call h)

pub answers_one_at_a_time : AnswersOneAtATime
answers_one_at_a_time most calls = calls_answer (new_queue most) calls (omega arith)
