-- No more frames wait than may.
use Rattle.std.proofs.Common.{◌≡◌, ◌≤◌, ℕ, ◌+◌, Bool, true, false, List, [], ◌∷◌, ◌++◌, length, map, Option, Some, None}
use Rattle.std.proofs.Common.{refl, arith, length-append}
use Rattle.std.specs.Prelude.{nat_lt, if◌then◌else◌}
use Rattle.std.proofs.lemmas.Bool.{ltb-false}
use Rattle.downlink.specs.declared.frame.Frame.{Frame}
use Rattle.downlink.specs.declared.frame.Sent.{Sent}
use Rattle.downlink.specs.declared.frame.Way.{Way}
use Rattle.downlink.specs.declared.frame.Way.TheVariants.{GoesBack, IsDropped}
use Rattle.downlink.specs.declared.station_mode.StationMode.{StationMode}
use Rattle.downlink.specs.declared.station_mode.StationMode.TheVariants.{Absent, Awake, FallsAsleep, Dozing}
use Rattle.downlink.specs.Receiver.{Queue, new_queue, without_first, waiting_without, takes_way, within}
use Rattle.downlink.specs.Receiver.{frame_that_comes}
use Rattle.downlink.specs.Receiver.{sent_another_way, next_sent, without_next, after_turn, first_that, has_ticket}
use Rattle.downlink.specs.Receiver.{after_told}
use Rattle.downlink.specs.Receiver.{in_mode, after_dozing, after_settling, after_waking, after_polling}
use Rattle.downlink.specs.Calls.{Call, Comes, Turn, Told, Returns, GivesUp, Joins, Leaves, Dozes, Settles, Wakes, Polls}
use Rattle.downlink.specs.Calls.{step, after}
use Rattle.downlink.specs.Laws.{IsBounded}

-- as many may wait as before, and no more of them do
record Fits (most : ℕ) (q : Queue) : Type 0 where
  same : q.most ≡ most
  few : length q.waiting ≤ most

room_is_made : (most : ℕ) (fs : List Frame) → length fs ≤ most + 1 → length (within most fs) ≤ most
room_is_made most [] l = omega arith
room_is_made most (f ∷ fs) l =
    let one : (b : Bool) → nat_lt most (length (f ∷ fs)) ≡ b → length (within most (f ∷ fs)) ≤ most =
    λ b. elim b as (λ v. nat_lt most (length (f ∷ fs)) ≡ v → length (within most (f ∷ fs)) ≤ most)
    [ true ↦ (λ e. rw e (omega arith)) | false ↦ (λ e. rw e (ltb-false most (length (f ∷ fs)) e)) ] in
    one (nat_lt most (length (f ∷ fs))) refl

fewer : {X : Type 0} (test : X → Bool) (xs : List X) → length (without_first test xs) ≤ length xs
fewer test [] = omega arith
fewer test (x ∷ xs) =
    elim (test x) as (λ b. length (if b then xs else x ∷ without_first test xs) ≤ length (x ∷ xs))
    [ true ↦ omega arith | false ↦ omega (arith, fewer test xs) ]

fewer_wait : (test : Frame → Bool) (again : Option Frame) (fs : List Frame) → length (waiting_without test again fs) ≤ length fs
fewer_wait test None fs = fewer test fs
fewer_wait test (Some f) fs =
    elim (test f) as (λ b. length (if b then fs else without_first test fs) ≤ length fs) [ true ↦ omega arith | false ↦ fewer test fs ]

as_many : (way : Way) (fs : List Frame) → length (map (sent_another_way way) fs) ≡ length fs
as_many way [] = refl
as_many way (f ∷ fs) = omega (arith, as_many way fs)

mode_fits : (most : ℕ) (mode : StationMode) (way : Way) (q : Queue) → Fits most q → Fits most (in_mode mode way q)
mode_fits most mode way q h = record { same = h.same; few = omega (arith, h.few, as_many way q.waiting) }

turn_fits : (most now : ℕ) (q : Queue) (s : Option Sent) → Fits most q → Fits most (after_turn now q s)
turn_fits most now q None h = h
turn_fits most now q (Some s) h =
    let shorter : length (waiting_without (takes_way true) q.again q.waiting) ≤ most =
    omega (arith, h.few, fewer_wait (takes_way true) q.again q.waiting) in
    elim (nat_lt s.frame.until now) as (λ b. Fits most
    (if b then without_next q else record (without_next q) { out = q.out ++ s ∷ []; last = Some s.frame.ticket }))
    [ true ↦ record { same = h.same; few = shorter } | false ↦ record { same = h.same; few = shorter } ]

told_fits : (most ticket : ℕ) (is_acknowledged : Bool) (q : Queue) (s : Option Sent) → Fits most q
    → Fits most (after_told ticket is_acknowledged q s)
told_fits most ticket is_acknowledged q None h = h
told_fits most ticket true q (Some s) h = record { same = h.same; few = h.few }
told_fits most ticket false q (Some s) h = record { same = h.same; few = h.few }

dozes_fits : (most : ℕ) (mode : StationMode) (q : Queue) → Fits most q → Fits most (after_dozing mode q)
dozes_fits most Absent q h = h
dozes_fits most Awake q h = mode_fits most FallsAsleep GoesBack q h
dozes_fits most FallsAsleep q h = mode_fits most FallsAsleep GoesBack q h
dozes_fits most Dozing q h = mode_fits most FallsAsleep GoesBack q h

settles_fits : (most : ℕ) (mode : StationMode) (q : Queue) → Fits most q → Fits most (after_settling mode q)
settles_fits most Absent q h = h
settles_fits most Awake q h = h
settles_fits most FallsAsleep q h = record { same = h.same; few = h.few }
settles_fits most Dozing q h = h

wakes_fits : (most : ℕ) (mode : StationMode) (q : Queue) → Fits most q → Fits most (after_waking mode q)
wakes_fits most Absent q h = h
wakes_fits most Awake q h = h
wakes_fits most FallsAsleep q h = record { same = h.same; few = h.few }
wakes_fits most Dozing q h = record { same = h.same; few = h.few }

polls_fits : (most until : ℕ) (mode : StationMode) (q : Queue) → Fits most q → Fits most (after_polling until mode q)
polls_fits most until Absent q h = h
polls_fits most until Awake q h = h
polls_fits most until FallsAsleep q h = h
polls_fits most until Dozing q h = record { same = h.same; few = h.few }

step_fits : (most : ℕ) (q : Queue) (call : Call) → Fits most q → Fits most (step q call)
step_fits most q (Comes ticket is_unit until now) h =
    let frame : Frame = frame_that_comes ticket is_unit until now q in
    let all : length (q.waiting ++ frame ∷ []) ≤ q.most + 1 = omega (arith, h.same, h.few, length-append q.waiting (frame ∷ [])) in
    record { same = h.same; few = omega (arith, h.same, room_is_made q.most (q.waiting ++ frame ∷ []) all) }
step_fits most q (Turn now) h = turn_fits most now q (next_sent q) h
step_fits most q (Told ticket is_acknowledged) h =
    told_fits most ticket is_acknowledged q (first_that (has_ticket ticket) q.out) h
step_fits most q Returns h = record { same = h.same; few = omega (arith, h.few, fewer_wait (takes_way false) q.again q.waiting) }
step_fits most q GivesUp h = record { same = h.same; few = omega (arith, h.few, fewer_wait (takes_way true) q.again q.waiting) }
step_fits most q Joins h = record { same = h.same; few = h.few }
step_fits most q Leaves h = mode_fits most Absent IsDropped q h
step_fits most q Dozes h = dozes_fits most q.mode q h
step_fits most q Settles h = settles_fits most q.mode q h
step_fits most q Wakes h = wakes_fits most q.mode q h
step_fits most q (Polls until) h = polls_fits most until q.mode q h

calls_fit : (most : ℕ) (q : Queue) (calls : List Call) → Fits most q → length (after q calls).waiting ≤ most
calls_fit most q [] h = h.few
calls_fit most q (call ∷ calls) h = calls_fit most (step q call) calls (step_fits most q call h)

pub is_bounded : IsBounded
is_bounded most calls = calls_fit most (new_queue most) calls (record { same = refl; few = omega arith })
