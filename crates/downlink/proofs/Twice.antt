-- A ticket goes at most twice, for the second time after it was told that nobody acknowledged it.
use Rattle.std.proofs.Common.{◌≡◌, ◌≤◌, ℕ, ◌+◌, Bool, true, false, ◌&&◌, not, List, [], ◌∷◌, ◌++◌, Option, Some, None}
use Rattle.std.proofs.Common.{refl, ap, arith}
use Rattle.std.specs.Prelude.{nat_lt, if◌then◌else◌}
use Rattle.std.specs.Option.{option_map, option_to_list}
use Rattle.downlink.specs.declared.frame.Frame.{Frame}
use Rattle.downlink.specs.declared.frame.Sent.{Sent}
use Rattle.downlink.specs.declared.frame.Way.{Way}
use Rattle.downlink.specs.declared.frame.Way.TheVariants.{GoesBack, IsDropped}
use Rattle.downlink.specs.declared.answer.Answer.{Answer}
use Rattle.downlink.specs.declared.answer.Fate.TheVariants.{WaitsAgain, Lost, Late}
use Rattle.downlink.specs.declared.station_mode.StationMode.{StationMode}
use Rattle.downlink.specs.declared.station_mode.StationMode.TheVariants.{Absent, Awake, FallsAsleep, Dozing}
use Rattle.downlink.specs.Receiver.{Queue, new_queue, first_that, first_by, for_first_time, again_without, takes_way}
use Rattle.downlink.specs.Receiver.{unsent_fate, sending_fate, fate_answer}
use Rattle.downlink.specs.Receiver.{frame_that_comes, next_sent, without_next, turn_answer, after_turn}
use Rattle.downlink.specs.Receiver.{has_ticket, again_beside, is_last, told_answer, after_told, next_leaving, in_mode}
use Rattle.downlink.specs.Receiver.{after_dozing, after_settling, after_waking, after_polling}
use Rattle.downlink.specs.Calls.{Call, Comes, Turn, Told, Returns, GivesUp, Joins, Leaves, Dozes, Settles, Wakes, Polls}
use Rattle.downlink.specs.Calls.{step, answer, after, answers}
use Rattle.downlink.specs.Laws.{one_if, count, has, goes_first, goes_again, waits_again, tells, GoesAtMostTwice}
use Rattle.downlink.proofs.Counts.{count-append, first_counted}
use Rattle.downlink.proofs.Conserved.{way_counted}
use Rattle.downlink.proofs.Fates.{told_by, deaf_to_unsent, deaf_to_crowding, deaf_to_leaving, deaf_to_giving_up, deaf_to_loss}

-- how many such tickets wait to go once more, and how many that went once are out
abbrev pub waits : (ℕ → Bool) → Queue → ℕ
waits p q = count (has p) (option_to_list q.again)

abbrev pub is_once : (ℕ → Bool) → Sent → Bool
is_once p s = not s.is_again && p s.frame.ticket

abbrev pub is_twice : (ℕ → Bool) → Sent → Bool
is_twice p s = s.is_again && p s.frame.ticket

abbrev pub once : (ℕ → Bool) → Queue → ℕ
once p q = count (is_once p) q.out

abbrev pub Twice : (ℕ → Bool) → Queue → Queue → Option Answer → Type 0
Twice p q later answered =
    (told_by (tells goes_again p) answered + waits p later ≤ told_by (tells waits_again p) answered + waits p q)
    × (told_by (tells waits_again p) answered + once p later ≤ told_by (tells goes_first p) answered + once p q)

-- ---- a call that tells of none of these fates

quiet : (p : ℕ → Bool) (q later : Queue) (answered : Option Answer) → told_by (tells goes_again p) answered ≡ 0
    → told_by (tells waits_again p) answered ≡ 0 → waits p later ≤ waits p q → once p later ≤ once p q → Twice p q later answered
quiet p q later answered g w a o = (omega arith, omega arith)

-- ---- the receiver's turn

fresh_twice : (p : ℕ → Bool) (o : Option Frame) → count (is_twice p) (option_to_list (option_map for_first_time o)) ≡ 0
fresh_twice p None = refl
fresh_twice p (Some f) = refl

again_counted : (p : ℕ → Bool) (test : Frame → Bool) (again : Option Frame) (fs : List Frame)
    → count (has p) (option_to_list (again_without test again)) + count (is_twice p) (option_to_list (first_by test again fs))
    ≤ count (has p) (option_to_list again)
again_counted p test None fs = omega (arith, fresh_twice p (first_that test fs))
again_counted p test (Some f) fs =
    elim (test f) as (λ b. count (has p) (option_to_list (if b then None else Some f))
    + count (is_twice p) (option_to_list (if b then Some (record { frame = f; is_again = true }) else option_map for_first_time (first_that test fs)))
    ≤ count (has p) (option_to_list (Some f)))
    [ true ↦ omega arith | false ↦ omega (arith, fresh_twice p (first_that test fs)) ]

sending_again : (p : ℕ → Bool) (s : Sent) → tells goes_again p (fate_answer (sending_fate s) s.frame) ≡ is_twice p s
sending_again p s =
    elim s.is_again as (λ b. tells goes_again p (fate_answer (sending_fate (record s { is_again = b })) s.frame) ≡ (b && p s.frame.ticket))
    [ true ↦ refl | false ↦ refl ]

sending_once : (p : ℕ → Bool) (s : Sent) → tells goes_first p (fate_answer (sending_fate s) s.frame) ≡ is_once p s
sending_once p s =
    elim s.is_again as (λ b. tells goes_first p (fate_answer (sending_fate (record s { is_again = b })) s.frame) ≡ (not b && p s.frame.ticket))
    [ true ↦ refl | false ↦ refl ]

sending_waits : (p : ℕ → Bool) (s : Sent) → tells waits_again p (fate_answer (sending_fate s) s.frame) ≡ false
sending_waits p s =
    elim s.is_again as (λ b. tells waits_again p (fate_answer (sending_fate (record s { is_again = b })) s.frame) ≡ false)
    [ true ↦ refl | false ↦ refl ]

late_leaves : (p : ℕ → Bool) (q : Queue) (s : Sent) (mode : StationMode) → waits p (without_next q) ≤ waits p q
    → Twice p q (without_next q) (Some (fate_answer (unsent_fate Late mode s.frame) s.frame))
late_leaves p q s mode h =
    quiet p q (without_next q) (Some (fate_answer (unsent_fate Late mode s.frame) s.frame))
    (deaf_to_unsent (tells goes_again p) Late mode s.frame (λ f. refl) (λ f. refl))
    (deaf_to_unsent (tells waits_again p) Late mode s.frame (λ f. refl) (λ f. refl)) h (omega arith)

goes_now : (p : ℕ → Bool) (q : Queue) (s : Sent) → waits p (without_next q) + one_if (is_twice p s) ≤ waits p q
    → Twice p q (record (without_next q) { out = q.out ++ s ∷ []; last = Some s.frame.ticket })
    (Some (fate_answer (sending_fate s) s.frame))
goes_now p q s h =
    let again : one_if (tells goes_again p (fate_answer (sending_fate s) s.frame)) ≡ one_if (is_twice p s) = ap one_if (sending_again p s) in
    let first : one_if (tells goes_first p (fate_answer (sending_fate s) s.frame)) ≡ one_if (is_once p s) = ap one_if (sending_once p s) in
    let none : one_if (tells waits_again p (fate_answer (sending_fate s) s.frame)) ≡ 0 = ap one_if (sending_waits p s) in
    (omega arith, omega (arith, count-append (is_once p) q.out (s ∷ [])))

turned_twice : (p : ℕ → Bool) (now : ℕ) (q : Queue) (s : Option Sent) → next_sent q ≡ s
    → Twice p q (after_turn now q s) (turn_answer now q.mode s)
turned_twice p now q None e = (omega arith, omega arith)
turned_twice p now q (Some s) e =
    let taken : count (is_twice p) (option_to_list (next_sent q)) ≡ one_if (is_twice p s) + 0 = ap (λ o. count (is_twice p) (option_to_list o)) e in
    let here : waits p (without_next q) + one_if (is_twice p s) ≤ waits p q =
    omega (arith, taken, again_counted p (takes_way true) q.again q.waiting) in
    elim (nat_lt s.frame.until now) as (λ b. Twice p q
    (if b then without_next q else record (without_next q) { out = q.out ++ s ∷ []; last = Some s.frame.ticket })
    (if b then Some (fate_answer (unsent_fate Late q.mode s.frame) s.frame) else Some (fate_answer (sending_fate s) s.frame)))
    [ true ↦ late_leaves p q s q.mode (omega arith) | false ↦ goes_now p q s here ]

-- ---- what became of one is told

loss_again : (p : ℕ → Bool) (mode : StationMode) (again : Option Frame) (may : Bool) (f : Frame)
    → count (has p) (option_to_list (if again_beside again may then Some f else again))
    ≤ told_by (tells waits_again p) (Some (if again_beside again may then fate_answer WaitsAgain f else fate_answer (unsent_fate Lost mode f) f))
    + count (has p) (option_to_list again)
loss_again p mode None true f = omega arith
loss_again p mode None false f = omega arith
loss_again p mode (Some g) may f = omega arith

loss_deaf : (p : ℕ → Bool) (mode : StationMode) (f : Frame)
    → told_by (tells waits_again p) (Some (fate_answer (unsent_fate Lost mode f) f)) ≡ 0
loss_deaf p mode f = deaf_to_unsent (tells waits_again p) Lost mode f (λ g. refl) (λ g. refl)

loss_once : (p : ℕ → Bool) (mode : StationMode) (again : Option Frame) (unit is_again last : Bool) (f : Frame)
    → told_by (tells waits_again p) (Some (if again_beside again (unit && not is_again && last) then fate_answer WaitsAgain f else fate_answer (unsent_fate Lost mode f) f))
    ≤ one_if (not is_again && p f.ticket)
loss_once p mode None true false true f = omega arith
loss_once p mode None true false false f = omega (arith, loss_deaf p mode f)
loss_once p mode None true true last f = omega (arith, loss_deaf p mode f)
loss_once p mode None false is_again last f = omega (arith, loss_deaf p mode f)
loss_once p mode (Some g) unit is_again last f = omega (arith, loss_deaf p mode f)

told_twice : (p : ℕ → Bool) (ticket : ℕ) (is_acknowledged : Bool) (q : Queue) (s : Option Sent)
    → first_that (has_ticket ticket) q.out ≡ s → Twice p q (after_told ticket is_acknowledged q s) (told_answer is_acknowledged q s)
told_twice p ticket is_acknowledged q None e = (omega arith, omega arith)
told_twice p ticket true q (Some s) e =
    (omega arith, omega (arith, first_counted (is_once p) (has_ticket ticket) q.out))
told_twice p ticket false q (Some s) e =
    let may : Bool = s.frame.is_unit && not s.is_again && is_last s.frame.ticket q.last in
    let taken : count (is_once p) (option_to_list (first_that (has_ticket ticket) q.out)) ≡ one_if (is_once p s) + 0 =
    ap (λ o. count (is_once p) (option_to_list o)) e in
    let deaf_again : told_by (tells goes_again p) (told_answer false q (Some s)) ≡ 0 =
    deaf_to_loss (tells goes_again p) (again_beside q.again may) q.mode s.frame (λ f. refl) (λ f. refl) (λ f. refl) in (
      omega (arith, deaf_again, loss_again p q.mode q.again may s.frame),
      omega (
        arith,
        taken,
        first_counted (is_once p) (has_ticket ticket) q.out,
        loss_once p q.mode q.again s.frame.is_unit s.is_again (is_last s.frame.ticket q.last) s.frame,
      ),
    )

-- ---- the other calls

returned_twice : (p : ℕ → Bool) (q : Queue) → Twice p q (step q Returns) (answer q Returns)
returned_twice p q =
    quiet p q (step q Returns) (answer q Returns)
    (deaf_to_leaving (tells goes_again p) (next_leaving q) (λ f. refl) (λ f. refl))
    (deaf_to_leaving (tells waits_again p) (next_leaving q) (λ f. refl) (λ f. refl))
    (omega (arith, again_counted p (takes_way false) q.again q.waiting)) (omega arith)

given_up_twice : (p : ℕ → Bool) (q : Queue) → Twice p q (step q GivesUp) (answer q GivesUp)
given_up_twice p q =
    quiet p q (step q GivesUp) (answer q GivesUp)
    (deaf_to_giving_up (tells goes_again p) q.mode (next_sent q) (λ f. refl) (λ f. refl))
    (deaf_to_giving_up (tells waits_again p) q.mode (next_sent q) (λ f. refl) (λ f. refl))
    (omega (arith, again_counted p (takes_way true) q.again q.waiting)) (omega arith)

mode_twice : (p : ℕ → Bool) (mode : StationMode) (way : Way) (q : Queue) → Twice p q (in_mode mode way q) None
mode_twice p mode way q = (omega (arith, way_counted p way q.again), omega arith)

dozes_twice : (p : ℕ → Bool) (mode : StationMode) (q : Queue) → Twice p q (after_dozing mode q) None
dozes_twice p Absent q = (omega arith, omega arith)
dozes_twice p Awake q = mode_twice p FallsAsleep GoesBack q
dozes_twice p FallsAsleep q = mode_twice p FallsAsleep GoesBack q
dozes_twice p Dozing q = mode_twice p FallsAsleep GoesBack q

settles_twice : (p : ℕ → Bool) (mode : StationMode) (q : Queue) → Twice p q (after_settling mode q) None
settles_twice p Absent q = (omega arith, omega arith)
settles_twice p Awake q = (omega arith, omega arith)
settles_twice p FallsAsleep q = (omega arith, omega arith)
settles_twice p Dozing q = (omega arith, omega arith)

wakes_twice : (p : ℕ → Bool) (mode : StationMode) (q : Queue) → Twice p q (after_waking mode q) None
wakes_twice p Absent q = (omega arith, omega arith)
wakes_twice p Awake q = (omega arith, omega arith)
wakes_twice p FallsAsleep q = (omega arith, omega arith)
wakes_twice p Dozing q = (omega arith, omega arith)

polls_twice : (p : ℕ → Bool) (until : ℕ) (mode : StationMode) (q : Queue) → Twice p q (after_polling until mode q) None
polls_twice p until Absent q = (omega arith, omega arith)
polls_twice p until Awake q = (omega arith, omega arith)
polls_twice p until FallsAsleep q = (omega arith, omega arith)
polls_twice p until Dozing q = (omega arith, omega arith)

step_twice : (p : ℕ → Bool) (q : Queue) (call : Call) → Twice p q (step q call) (answer q call)
step_twice p q (Comes ticket is_unit until now) =
    let all : List Frame = q.waiting ++ frame_that_comes ticket is_unit until now q ∷ [] in
    quiet p q (step q (Comes ticket is_unit until now)) (answer q (Comes ticket is_unit until now))
    (deaf_to_crowding (tells goes_again p) q.most all (λ f. refl)) (deaf_to_crowding (tells waits_again p) q.most all (λ f. refl))
    (omega arith) (omega arith)
step_twice p q (Turn now) = turned_twice p now q (next_sent q) refl
step_twice p q (Told ticket is_acknowledged) = told_twice p ticket is_acknowledged q (first_that (has_ticket ticket) q.out) refl
step_twice p q Returns = returned_twice p q
step_twice p q GivesUp = given_up_twice p q
step_twice p q Joins = (omega arith, omega arith)
step_twice p q Leaves = mode_twice p Absent IsDropped q
step_twice p q Dozes = dozes_twice p q.mode q
step_twice p q Settles = settles_twice p q.mode q
step_twice p q Wakes = wakes_twice p q.mode q
step_twice p q (Polls until) = polls_twice p until q.mode q

calls_twice : (p : ℕ → Bool) (q : Queue) (calls : List Call)
    → (count (tells goes_again p) (answers q calls) + waits p (after q calls) ≤ count (tells waits_again p) (answers q calls) + waits p q)
    × (count (tells waits_again p) (answers q calls) + once p (after q calls) ≤ count (tells goes_first p) (answers q calls) + once p q)
calls_twice p q [] = (omega arith, omega arith)
calls_twice p q (call ∷ calls) =
    let now : Twice p q (step q call) (answer q call) = step_twice p q call in
    let rest = calls_twice p (step q call) calls in
    let first : List Answer = option_to_list (answer q call) in
    let others : List Answer = answers (step q call) calls in (
      omega (arith, now.0, rest.0, count-append (tells goes_again p) first others, count-append (tells waits_again p) first others),
      omega (arith, now.1, rest.1, count-append (tells waits_again p) first others, count-append (tells goes_first p) first others),
    )

pub at_most_twice : GoesAtMostTwice
at_most_twice p most calls =
    let both = calls_twice p (new_queue most) calls in (omega (arith, both.0), omega (arith, both.1))
