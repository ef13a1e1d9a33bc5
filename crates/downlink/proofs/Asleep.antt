-- While a station dozes, at most one unit goes to it for each poll.
use Rattle.std.proofs.Common.{◌≡◌, ◌≤◌, ℕ, ◌+◌, Bool, true, false, ◌&&◌, not, List, [], ◌∷◌, ◌++◌, length, map, Option}
use Rattle.std.proofs.Common.{Some, None, refl, ap, ◌∙◌, arith}
use Rattle.std.specs.Prelude.{nat_lt, nat_le, if◌then◌else◌}
use Rattle.std.specs.Option.{option_map, option_to_list}
use Rattle.downlink.specs.declared.frame.Frame.{Frame}
use Rattle.downlink.specs.declared.frame.Sent.{Sent}
use Rattle.downlink.specs.declared.frame.Way.{Way}
use Rattle.downlink.specs.declared.frame.Way.TheVariants.{AnswersPoll, GoesBack, IsDropped}
use Rattle.downlink.specs.declared.answer.Answer.{Answer}
use Rattle.downlink.specs.declared.station_mode.StationMode.{StationMode}
use Rattle.downlink.specs.declared.station_mode.StationMode.TheVariants.{Absent, Awake, FallsAsleep, Dozing}
use Rattle.downlink.specs.Receiver.{Queue, first_that, without_first, first_by, for_first_time, waiting_without}
use Rattle.downlink.specs.Receiver.{takes_way, goes, way_goes, within, sending_fate, fate_answer}
use Rattle.downlink.specs.Receiver.{frame_that_comes, way_of, right_beside, sent_another_way, next_sent, without_next}
use Rattle.downlink.specs.Receiver.{turn_answer, after_turn}
use Rattle.downlink.specs.Receiver.{has_ticket, may_go_again, told_answer, after_told, next_leaving, in_mode}
use Rattle.downlink.specs.Receiver.{after_dozing, after_settling, after_polling, ignores_polls, right_after_poll}
use Rattle.downlink.specs.Calls.{Call, Comes, Turn, Told, Returns, GivesUp, Joins, Leaves, Dozes, Settles, Wakes, Polls}
use Rattle.downlink.specs.Calls.{step, answer, answers}
use Rattle.downlink.specs.Laws.{one_if, count, stays_asleep, all_stay_asleep, is_poll, is_present, is_new_unit}
use Rattle.downlink.specs.Laws.{right_count, GoesByPolls}
use Rattle.downlink.proofs.Counts.{count-append, first_counted}
use Rattle.downlink.proofs.Fates.{told_by, deaf_to_crowding, deaf_to_leaving, deaf_to_giving_up, deaf_to_loss, turn_told}

abbrev pub is_awake : StationMode → Bool
is_awake Absent = false
is_awake Awake = true
is_awake FallsAsleep = false
is_awake Dozing = false

-- a unit that waits and goes
abbrev pub is_unit_to_go : Frame → Bool
is_unit_to_go f = goes f && f.is_unit

-- how many units may still go before the next poll
abbrev pub due : Queue → ℕ
due q = count is_unit_to_go q.waiting + right_count q.right

abbrev pub Asleep : Queue → Bool → Queue → Option Answer → Type 0
Asleep q polled later answered =
    (is_awake later.mode ≡ false) × (told_by is_new_unit answered + due later ≤ due q + one_if polled)

-- ---- a frame comes

crowding_due : (most : ℕ) (fs : List Frame) → count is_unit_to_go (within most fs) ≤ count is_unit_to_go fs
crowding_due most [] = omega arith
crowding_due most (f ∷ fs) =
    elim (nat_lt most (length (f ∷ fs))) as (λ b. count is_unit_to_go (if b then fs else f ∷ fs) ≤ count is_unit_to_go (f ∷ fs))
    [ true ↦ omega arith | false ↦ omega arith ]

-- a unit that comes uses the right of a poll, or doesn't go
right_used : (is_unit : Bool) (now : ℕ) (mode : StationMode) (right : Option ℕ) → is_awake mode ≡ false
    → let way = way_of is_unit now mode right in
    one_if (way_goes way && is_unit) + right_count (right_beside way right) ≤ right_count right
right_used false now mode right h = omega arith
right_used true now Absent right h = omega arith
right_used true now Awake right h = absurd (cc)
right_used true now FallsAsleep right h = omega arith
right_used true now Dozing None h = omega arith
right_used true now Dozing (Some until) h =
    elim (nat_le now until) as (λ b. let way : Way = (if b then AnswersPoll else GoesBack) in
    one_if (way_goes way && true) + right_count (right_beside way (Some until)) ≤ 1)
    [ true ↦ omega arith | false ↦ omega arith ]

coming_asleep : (ticket : ℕ) (is_unit : Bool) (until now : ℕ) (q : Queue) → is_awake q.mode ≡ false
    → Asleep q false (step q (Comes ticket is_unit until now)) (answer q (Comes ticket is_unit until now))
coming_asleep ticket is_unit until now q h =
    let f : Frame = frame_that_comes ticket is_unit until now q in (
      h,
      omega (
        arith,
        deaf_to_crowding is_new_unit q.most (q.waiting ++ f ∷ []) (λ g. refl),
        crowding_due q.most (q.waiting ++ f ∷ []),
        count-append is_unit_to_go q.waiting (f ∷ []),
        right_used is_unit now q.mode q.right h,
      ),
    )

-- ---- the receiver's turn

abbrev pub is_new : Sent → Bool
is_new s = not s.is_again && s.frame.is_unit

abbrev pub is_unit_frame : Frame → Bool
is_unit_frame f = f.is_unit

first_due : (fs : List Frame) → count is_unit_to_go fs
    ≡ count is_unit_to_go (without_first (takes_way true) fs) + count is_unit_frame (option_to_list (first_that (takes_way true) fs))
first_due [] = refl
first_due (f ∷ fs) =
    let one : (b : Bool) → goes f ≡ b → count is_unit_to_go (f ∷ fs)
    ≡ count is_unit_to_go (without_first (takes_way true) (f ∷ fs)) + count is_unit_frame (option_to_list (first_that (takes_way true) (f ∷ fs))) =
    λ b. elim b as (λ v. goes f ≡ v → count is_unit_to_go (f ∷ fs)
    ≡ count is_unit_to_go (without_first (takes_way true) (f ∷ fs)) + count is_unit_frame (option_to_list (first_that (takes_way true) (f ∷ fs))))
    [ true ↦ (λ e. rw e (omega arith)) | false ↦ (λ e. rw (e, e) (omega (arith, first_due fs))) ] in
    one (goes f) refl

fresh_new : (o : Option Frame) → count is_new (option_to_list (option_map for_first_time o)) ≡ count is_unit_frame (option_to_list o)
fresh_new None = refl
fresh_new (Some f) = refl

next_due : (again : Option Frame) (fs : List Frame) → count is_unit_to_go fs
    ≡ count is_unit_to_go (waiting_without (takes_way true) again fs) + count is_new (option_to_list (first_by (takes_way true) again fs))
next_due None fs = omega (arith, first_due fs, fresh_new (first_that (takes_way true) fs))
next_due (Some f) fs =
    elim (goes f) as (λ b. count is_unit_to_go fs ≡ count is_unit_to_go (if b then fs else without_first (takes_way true) fs)
    + count is_new (option_to_list (if b then Some (record { frame = f; is_again = true }) else option_map for_first_time (first_that (takes_way true) fs))))
    [ true ↦ omega arith | false ↦ omega (arith, first_due fs, fresh_new (first_that (takes_way true) fs)) ]

sending_new : (s : Sent) → is_new_unit (fate_answer (sending_fate s) s.frame) ≡ is_new s
sending_new s =
    elim s.is_again as (λ b. is_new_unit (fate_answer (sending_fate (record s { is_again = b })) s.frame) ≡ (not b && s.frame.is_unit))
    [ true ↦ refl | false ↦ refl ]

turn_mode : (now : ℕ) (q : Queue) (s : Sent) → (after_turn now q (Some s)).mode ≡ q.mode
turn_mode now q s =
    elim (nat_lt s.frame.until now) as (λ b.
    (if b then without_next q else record (without_next q) { out = q.out ++ s ∷ []; last = Some s.frame.ticket }).mode ≡ q.mode)
    [ true ↦ refl | false ↦ refl ]

turn_due : (now : ℕ) (q : Queue) (s : Sent) → due (after_turn now q (Some s)) ≡ due (without_next q)
turn_due now q s =
    elim (nat_lt s.frame.until now) as (λ b.
    due (if b then without_next q else record (without_next q) { out = q.out ++ s ∷ []; last = Some s.frame.ticket }) ≡ due (without_next q))
    [ true ↦ refl | false ↦ refl ]

turned_asleep : (now : ℕ) (q : Queue) (s : Option Sent) → next_sent q ≡ s → is_awake q.mode ≡ false
    → Asleep q false (after_turn now q s) (turn_answer now q.mode s)
turned_asleep now q None e h = (h, omega arith)
turned_asleep now q (Some s) e h =
    let taken : count is_new (option_to_list (next_sent q)) ≡ one_if (is_new s) + 0 = ap (λ o. count is_new (option_to_list o)) e in
    let sent : one_if (is_new_unit (fate_answer (sending_fate s) s.frame)) ≡ one_if (is_new s) = ap one_if (sending_new s) in (
      ap is_awake (turn_mode now q s) ∙ h,
      omega (arith, taken, sent, next_due q.again q.waiting, turn_due now q s, turn_told is_new_unit now q.mode s (λ f. refl) (λ f. refl)),
    )

-- ---- what became of one is told, and what doesn't go leaves

told_asleep : (ticket : ℕ) (is_acknowledged : Bool) (q : Queue) (s : Option Sent) → is_awake q.mode ≡ false
    → Asleep q false (after_told ticket is_acknowledged q s) (told_answer is_acknowledged q s)
told_asleep ticket is_acknowledged q None h = (h, omega arith)
told_asleep ticket true q (Some s) h = (h, omega arith)
told_asleep ticket false q (Some s) h =
    (h, omega (arith, deaf_to_loss is_new_unit (may_go_again q s) q.mode s.frame (λ f. refl) (λ f. refl) (λ f. refl)))

leaving_due : (again : Option Frame) (fs : List Frame)
    → count is_unit_to_go (waiting_without (takes_way false) again fs) ≤ count is_unit_to_go fs
leaving_due None fs = omega (arith, first_counted is_unit_to_go (takes_way false) fs)
leaving_due (Some f) fs =
    elim (takes_way false f) as (λ b. count is_unit_to_go (if b then fs else without_first (takes_way false) fs) ≤ count is_unit_to_go fs)
    [ true ↦ omega arith | false ↦ omega (arith, first_counted is_unit_to_go (takes_way false) fs) ]

-- ---- the station changes its mode

and_false : (b : Bool) → (b && false) ≡ false
and_false true = refl
and_false false = refl

another_way : (way : Way) → way_goes way ≡ false → (f : Frame) → is_unit_to_go (sent_another_way way f) ≡ false
another_way way h f =
    let one : (b : Bool) → f.is_unit ≡ b → is_unit_to_go (sent_another_way way f) ≡ false =
    λ b. elim b as (λ v. f.is_unit ≡ v → is_unit_to_go (sent_another_way way f) ≡ false)
    [ true ↦ (λ e. rw (e, h) refl) | false ↦ (λ e. rw e (and_false (goes f))) ] in
    one f.is_unit refl

ways_due : (way : Way) → way_goes way ≡ false → (fs : List Frame) → count is_unit_to_go (map (sent_another_way way) fs) ≡ 0
ways_due way h [] = refl
ways_due way h (f ∷ fs) =
    let none : one_if (is_unit_to_go (sent_another_way way f)) ≡ 0 = ap one_if (another_way way h f) in
    omega (arith, none, ways_due way h fs)

mode_due : (mode : StationMode) (way : Way) → way_goes way ≡ false → (q : Queue) → due (in_mode mode way q) ≡ 0
mode_due mode way h q = omega (arith, ways_due way h q.waiting)

mode_asleep : (mode : StationMode) (way : Way) → is_awake mode ≡ false → way_goes way ≡ false → (q : Queue)
    → Asleep q false (in_mode mode way q) None
mode_asleep mode way a h q = (a, omega (arith, ways_due way h q.waiting))

dozes_asleep : (mode : StationMode) (q : Queue) → is_awake mode ≡ false → is_awake q.mode ≡ false → Asleep q false (after_dozing mode q) None
dozes_asleep Absent q a h = (h, omega arith)
dozes_asleep Awake q a h = absurd (cc)
dozes_asleep FallsAsleep q a h = mode_asleep FallsAsleep GoesBack refl refl q
dozes_asleep Dozing q a h = mode_asleep FallsAsleep GoesBack refl refl q

settles_asleep : (mode : StationMode) (q : Queue) → is_awake q.mode ≡ false → Asleep q false (after_settling mode q) None
settles_asleep Absent q h = (h, omega arith)
settles_asleep Awake q h = (h, omega arith)
settles_asleep FallsAsleep q h = (refl, omega arith)
settles_asleep Dozing q h = (h, omega arith)

polls_asleep : (until : ℕ) (mode : StationMode) (q : Queue) → is_awake q.mode ≡ false → Asleep q true (after_polling until mode q) None
polls_asleep until Absent q h = (h, omega arith)
polls_asleep until Awake q h = (h, omega arith)
polls_asleep until FallsAsleep q h = (h, omega arith)
polls_asleep until Dozing q h =
    let rights : right_count (right_after_poll until (ignores_polls q) q.right) ≤ right_count q.right + 1 =
    elim (ignores_polls q) as (λ b. right_count (right_after_poll until b q.right) ≤ right_count q.right + 1)
    [ true ↦ omega arith | false ↦ omega arith ] in
    (h, omega (arith, rights))

-- ---- one call, and any number of them

step_asleep : (q : Queue) (call : Call) → is_awake q.mode ≡ false → stays_asleep call ≡ true
    → Asleep q (is_poll call) (step q call) (answer q call)
step_asleep q (Comes ticket is_unit until now) h s = coming_asleep ticket is_unit until now q h
step_asleep q (Turn now) h s = turned_asleep now q (next_sent q) refl h
step_asleep q (Told ticket is_acknowledged) h s = told_asleep ticket is_acknowledged q (first_that (has_ticket ticket) q.out) h
step_asleep q Returns h s =
    (h, omega (arith, deaf_to_leaving is_new_unit (next_leaving q) (λ f. refl) (λ f. refl), leaving_due q.again q.waiting))
step_asleep q GivesUp h s =
    (h, omega (arith, deaf_to_giving_up is_new_unit q.mode (next_sent q) (λ f. refl) (λ f. refl), next_due q.again q.waiting))
step_asleep q Joins h s = absurd (cc)
step_asleep q Leaves h s = mode_asleep Absent IsDropped refl refl q
step_asleep q Dozes h s = dozes_asleep q.mode q h h
step_asleep q Settles h s = settles_asleep q.mode q h
step_asleep q Wakes h s = absurd (cc)
step_asleep q (Polls until) h s = polls_asleep until q.mode q h

both_true : (a b : Bool) → (a && b) ≡ true → (a ≡ true) × (b ≡ true)
both_true true b h = (refl, h)
both_true false b h = absurd (cc)

calls_asleep : (q : Queue) (calls : List Call) → is_awake q.mode ≡ false → all_stay_asleep calls ≡ true
    → count is_new_unit (answers q calls) ≤ due q + count is_poll calls
calls_asleep q [] h s = omega arith
calls_asleep q (call ∷ calls) h s =
    let each = both_true (stays_asleep call) (all_stay_asleep calls) s in
    let now : Asleep q (is_poll call) (step q call) (answer q call) = step_asleep q call h each.0 in
    omega (
      arith,
      now.1,
      calls_asleep (step q call) calls now.0 each.1,
      count-append is_new_unit (option_to_list (answer q call)) (answers (step q call) calls),
    )

falls_asleep : (mode : StationMode) (q : Queue) → is_present mode ≡ true → (calls : List Call) → all_stay_asleep calls ≡ true
    → count is_new_unit (answers (after_dozing mode q) calls) ≤ count is_poll calls
falls_asleep Absent q p calls s = absurd (cc)
falls_asleep Awake q p calls s =
    omega (arith, calls_asleep (in_mode FallsAsleep GoesBack q) calls refl s, mode_due FallsAsleep GoesBack refl q)
falls_asleep FallsAsleep q p calls s =
    omega (arith, calls_asleep (in_mode FallsAsleep GoesBack q) calls refl s, mode_due FallsAsleep GoesBack refl q)
falls_asleep Dozing q p calls s =
    omega (arith, calls_asleep (in_mode FallsAsleep GoesBack q) calls refl s, mode_due FallsAsleep GoesBack refl q)

pub goes_by_polls : GoesByPolls
goes_by_polls q calls p s = falls_asleep q.mode q p calls s
