-- Nothing vanishes.
use Rattle.std.proofs.Common.{◌≡◌, ℕ, ◌+◌, Bool, true, false, ◌&&◌, not, List, [], ◌∷◌, ◌++◌, length, map, Option, Some}
use Rattle.std.proofs.Common.{None, refl, ap, arith}
use Rattle.std.specs.Prelude.{nat_lt, if◌then◌else◌}
use Rattle.std.specs.Option.{option_map, option_to_list}
use Rattle.downlink.specs.declared.frame.Frame.{Frame}
use Rattle.downlink.specs.declared.frame.Sent.{Sent}
use Rattle.downlink.specs.declared.frame.Way.{Way}
use Rattle.downlink.specs.declared.frame.Way.TheVariants.{InTurn, AnswersPoll, GoesBack, IsDropped}
use Rattle.downlink.specs.declared.answer.Answer.{Answer}
use Rattle.downlink.specs.declared.answer.Fate.{Fate}
use Rattle.downlink.specs.declared.answer.Fate.TheVariants.{WaitsAgain, Lost, HandedBack, Late, Crowded, GivenUp}
use Rattle.downlink.specs.declared.station_mode.StationMode.{StationMode}
use Rattle.downlink.specs.declared.station_mode.StationMode.TheVariants.{Absent, Awake, FallsAsleep, Dozing}
use Rattle.downlink.specs.Receiver.{Queue, first_that, first_by, takes_way, within, crowded_out}
use Rattle.downlink.specs.Receiver.{frame_that_comes, sent_another_way, next_sent, without_next, turn_answer}
use Rattle.downlink.specs.Receiver.{after_turn, unsent_fate, sending_fate, fate_answer}
use Rattle.downlink.specs.Receiver.{has_ticket, told_answer, after_told, again_beside, is_last, is_asleep, after_dozing}
use Rattle.downlink.specs.Receiver.{after_settling, after_waking, after_polling, next_leaving, leaving_answer}
use Rattle.downlink.specs.Receiver.{without_leaving, leaving_fate, giving_up_answer, in_mode}
use Rattle.downlink.specs.Calls.{Call, Comes, Turn, Told, Returns, GivesUp, Joins, Leaves, Dozes, Settles, Wakes, Polls}
use Rattle.downlink.specs.Calls.{step, answer, answers}
use Rattle.downlink.specs.Laws.{one_if, count, has, has_sent, held, brings, is_gone, tells, IsConserved}
use Rattle.downlink.proofs.Counts.{count-append, first_counted, next_counted, of_sent}

-- what a call answers of frames that left for good
abbrev pub gone : (ℕ → Bool) → Option Answer → ℕ
gone p answered = count (tells is_gone p) (option_to_list answered)

-- ---- a frame comes

crowding_counted : (p : ℕ → Bool) (most : ℕ) (fs : List Frame)
    → count (has p) fs ≡ count (has p) (within most fs) + gone p (crowded_out most fs)
crowding_counted p most [] = refl
crowding_counted p most (f ∷ fs) =
    elim (nat_lt most (length (f ∷ fs))) as (λ b. one_if (p f.ticket) + count (has p) fs
    ≡ count (has p) (if b then fs else f ∷ fs) + gone p (if b then Some (fate_answer Crowded f) else None))
    [ true ↦ omega arith | false ↦ omega arith ]

-- ---- fates

unsent_gone : (what : Fate) (mode : StationMode) (f : Frame) → is_gone what ≡ true → is_gone (unsent_fate what mode f) ≡ true
unsent_gone what mode f h =
    elim (f.is_unit && is_asleep mode) as (λ b. is_gone (if b then HandedBack else what) ≡ true) [ true ↦ refl | false ↦ h ]

leaving_gone : (way : Way) → is_gone (leaving_fate way) ≡ true
leaving_gone InTurn = refl
leaving_gone AnswersPoll = refl
leaving_gone GoesBack = refl
leaving_gone IsDropped = refl

sending_not_gone : (s : Sent) → is_gone (sending_fate s) ≡ false
sending_not_gone s = elim s.is_again as (λ b. is_gone (sending_fate (record s { is_again = b })) ≡ false) [ true ↦ refl | false ↦ refl ]

-- an answer that tells of a frame that left
left_counted : (p : ℕ → Bool) (what : Fate) (f : Frame) → is_gone what ≡ true
    → gone p (Some (fate_answer what f)) ≡ one_if (p f.ticket)
left_counted p what f h = rw h (omega arith)

stays_counted : (p : ℕ → Bool) (what : Fate) (f : Frame) → is_gone what ≡ false → gone p (Some (fate_answer what f)) ≡ 0
stays_counted p what f h = rw h (omega arith)

-- ---- the receiver's turn

abbrev pub Balanced : (ℕ → Bool) → Queue → Bool → Queue → Option Answer → Type 0
Balanced p q came later answered = held p q + one_if came ≡ held p later + gone p answered

turned : (p : ℕ → Bool) (now : ℕ) (q : Queue) (s : Option Sent) → next_sent q ≡ s
    → Balanced p q false (after_turn now q s) (turn_answer now q.mode s)
turned p now q None e = refl
turned p now q (Some s) e =
    let next = next_counted (has p) (takes_way true) q.again q.waiting in
    let taken : count (of_sent (has p)) (option_to_list (first_by (takes_way true) q.again q.waiting)) ≡ one_if (p s.frame.ticket) + 0 =
    ap (λ o. count (of_sent (has p)) (option_to_list o)) e in
    elim (nat_lt s.frame.until now) as (λ b. Balanced p q false
    (if b then without_next q else record (without_next q) { out = q.out ++ s ∷ []; last = Some s.frame.ticket })
    (if b then Some (fate_answer (unsent_fate Late q.mode s.frame) s.frame) else Some (fate_answer (sending_fate s) s.frame))) [
      | true ↦ omega (arith, next, taken, left_counted p (unsent_fate Late q.mode s.frame) s.frame (unsent_gone Late q.mode s.frame refl))
      | false ↦ omega (arith, next, taken, count-append (has_sent p) q.out (s ∷ []), stays_counted p (sending_fate s) s.frame (sending_not_gone s))
    ]

-- ---- what became of one is told

lost_counted : (p : ℕ → Bool) (mode : StationMode) (again : Option Frame) (may : Bool) (f : Frame)
    → count (has p) (option_to_list again) + one_if (p f.ticket)
    ≡ count (has p) (option_to_list (if again_beside again may then Some f else again))
    + gone p (Some (if again_beside again may then fate_answer WaitsAgain f else fate_answer (unsent_fate Lost mode f) f))
lost_counted p mode None true f = omega arith
lost_counted p mode None false f = omega (arith, left_counted p (unsent_fate Lost mode f) f (unsent_gone Lost mode f refl))
lost_counted p mode (Some g) may f = omega (arith, left_counted p (unsent_fate Lost mode f) f (unsent_gone Lost mode f refl))

told_one : (p : ℕ → Bool) (ticket : ℕ) (is_acknowledged : Bool) (q : Queue) (s : Option Sent)
    → first_that (has_ticket ticket) q.out ≡ s
    → Balanced p q false (after_told ticket is_acknowledged q s) (told_answer is_acknowledged q s)
told_one p ticket is_acknowledged q None e = refl
told_one p ticket true q (Some s) e =
    let taken : count (has_sent p) (option_to_list (first_that (has_ticket ticket) q.out)) ≡ one_if (p s.frame.ticket) + 0 =
    ap (λ o. count (has_sent p) (option_to_list o)) e in
    omega (arith, first_counted (has_sent p) (has_ticket ticket) q.out, taken)
told_one p ticket false q (Some s) e =
    let taken : count (has_sent p) (option_to_list (first_that (has_ticket ticket) q.out)) ≡ one_if (p s.frame.ticket) + 0 =
    ap (λ o. count (has_sent p) (option_to_list o)) e in
    omega (
      arith,
      first_counted (has_sent p) (has_ticket ticket) q.out,
      taken,
      lost_counted p q.mode q.again (s.frame.is_unit && not s.is_again && is_last s.frame.ticket q.last) s.frame,
    )

-- ---- what goes back or is dropped

returned : (p : ℕ → Bool) (q : Queue) (s : Option Sent) → next_leaving q ≡ s
    → Balanced p q false (without_leaving q) (option_map leaving_answer s)
returned p q None e =
    omega (arith, next_counted (has p) (takes_way false) q.again q.waiting, ap (λ o. count (of_sent (has p)) (option_to_list o)) e)
returned p q (Some s) e =
    let taken : count (of_sent (has p)) (option_to_list (next_leaving q)) ≡ one_if (p s.frame.ticket) + 0 =
    ap (λ o. count (of_sent (has p)) (option_to_list o)) e in
    omega (
      arith,
      next_counted (has p) (takes_way false) q.again q.waiting,
      taken,
      left_counted p (leaving_fate s.frame.way) s.frame (leaving_gone s.frame.way),
    )

-- ---- its caller gives the next one up

given_up : (p : ℕ → Bool) (q : Queue) (s : Option Sent) → next_sent q ≡ s
    → Balanced p q false (without_next q) (option_map (giving_up_answer q.mode) s)
given_up p q None e =
    omega (arith, next_counted (has p) (takes_way true) q.again q.waiting, ap (λ o. count (of_sent (has p)) (option_to_list o)) e)
given_up p q (Some s) e =
    let taken : count (of_sent (has p)) (option_to_list (next_sent q)) ≡ one_if (p s.frame.ticket) + 0 =
    ap (λ o. count (of_sent (has p)) (option_to_list o)) e in
    omega (
      arith,
      next_counted (has p) (takes_way true) q.again q.waiting,
      taken,
      left_counted p (unsent_fate GivenUp q.mode s.frame) s.frame (unsent_gone GivenUp q.mode s.frame refl),
    )

-- ---- the station changes its mode

same_ticket : (p : ℕ → Bool) (way : Way) (f : Frame) → has p (sent_another_way way f) ≡ has p f
same_ticket p way f =
    elim f.is_unit as (λ b. has p (if b then record f { way = way } else f) ≡ has p f) [ true ↦ refl | false ↦ refl ]

ways_counted : (p : ℕ → Bool) (way : Way) (fs : List Frame) → count (has p) (map (sent_another_way way) fs) ≡ count (has p) fs
ways_counted p way [] = refl
ways_counted p way (f ∷ fs) = omega (arith, ap one_if (same_ticket p way f), ways_counted p way fs)

pub way_counted : (p : ℕ → Bool) (way : Way) (again : Option Frame)
    → count (has p) (option_to_list (option_map (sent_another_way way) again)) ≡ count (has p) (option_to_list again)
way_counted p way None = refl
way_counted p way (Some f) = omega (arith, ap one_if (same_ticket p way f))

mode_balanced : (p : ℕ → Bool) (mode : StationMode) (way : Way) (q : Queue) → Balanced p q false (in_mode mode way q) None
mode_balanced p mode way q = omega (arith, ways_counted p way q.waiting, way_counted p way q.again)

dozes_balanced : (p : ℕ → Bool) (mode : StationMode) (q : Queue) → Balanced p q false (after_dozing mode q) None
dozes_balanced p Absent q = refl
dozes_balanced p Awake q = mode_balanced p FallsAsleep GoesBack q
dozes_balanced p FallsAsleep q = mode_balanced p FallsAsleep GoesBack q
dozes_balanced p Dozing q = mode_balanced p FallsAsleep GoesBack q

settles_balanced : (p : ℕ → Bool) (mode : StationMode) (q : Queue) → Balanced p q false (after_settling mode q) None
settles_balanced p Absent q = refl
settles_balanced p Awake q = refl
settles_balanced p FallsAsleep q = refl
settles_balanced p Dozing q = refl

wakes_balanced : (p : ℕ → Bool) (mode : StationMode) (q : Queue) → Balanced p q false (after_waking mode q) None
wakes_balanced p Absent q = refl
wakes_balanced p Awake q = refl
wakes_balanced p FallsAsleep q = refl
wakes_balanced p Dozing q = refl

polls_balanced : (p : ℕ → Bool) (until : ℕ) (mode : StationMode) (q : Queue) → Balanced p q false (after_polling until mode q) None
polls_balanced p until Absent q = refl
polls_balanced p until Awake q = refl
polls_balanced p until FallsAsleep q = refl
polls_balanced p until Dozing q = refl

-- ---- one call, and any number of them

pub step_balanced : (p : ℕ → Bool) (q : Queue) (call : Call) → Balanced p q (brings p call) (step q call) (answer q call)
step_balanced p q (Comes ticket is_unit until now) =
    let frame = frame_that_comes ticket is_unit until now q in
    omega (arith, crowding_counted p q.most (q.waiting ++ frame ∷ []), count-append (has p) q.waiting (frame ∷ []))
step_balanced p q (Turn now) = turned p now q (next_sent q) refl
step_balanced p q (Told ticket is_acknowledged) =
    told_one p ticket is_acknowledged q (first_that (has_ticket ticket) q.out) refl
step_balanced p q Returns = returned p q (next_leaving q) refl
step_balanced p q GivesUp = given_up p q (next_sent q) refl
step_balanced p q Joins = refl
step_balanced p q Leaves = mode_balanced p Absent IsDropped q
step_balanced p q Dozes = dozes_balanced p q.mode q
step_balanced p q Settles = settles_balanced p q.mode q
step_balanced p q Wakes = wakes_balanced p q.mode q
step_balanced p q (Polls until) = polls_balanced p until q.mode q

pub is_conserved : IsConserved
is_conserved p q [] = omega arith
is_conserved p q (call ∷ calls) =
    omega (
      arith,
      step_balanced p q call,
      is_conserved p (step q call) calls,
      count-append (tells is_gone p) (option_to_list (answer q call)) (answers (step q call) calls),
    )
