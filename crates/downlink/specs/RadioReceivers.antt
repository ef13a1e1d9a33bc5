-- What becomes of the frames of each receiver of a radio's networks, over any list of calls.
use Rattle.std.specs.Prelude.{ℕ, ◌≡◌, ◌+◌, ◌≤◌, Bool, true, nat_eq, List, [], ◌∷◌, ◌++◌, length, map, Option, Some, None, slice_get, if◌then◌else◌}
use Rattle.std.specs.List.{sum}
use Rattle.downlink.specs.declared.answer.Answer.{Answer}
use Rattle.downlink.specs.Receiver.{Queue, new_queue}
use Rattle.downlink.specs.Calls.{Call, Dozes, after, answers}
use Rattle.downlink.specs.Laws.{count, held, is_gone, goes_first, goes_again, waits_again, tells, IsWithin, came_by, came, went}
use Rattle.downlink.specs.Laws.{is_present, all_stay_asleep, is_poll, is_new_unit, answers_on_their_way}
use Rattle.downlink.specs.Parts.{own_answers}
use Rattle.downlink.specs.Networks.{Network, NetworkCall, To, TurnOfOne, Pauses as NetworkPauses, new_network, calls_to}
use Rattle.downlink.specs.Radios.{Radio, RadioCall, Of, Next, NextOf, Pauses, Used, receiver_at, radio_step, radio_after}
use Rattle.downlink.specs.Radios.{radio_answers, own_calls}

-- what is answered of a receiver's frames
abbrev pub answers_to : (place receiver : ℕ) → List (ℕ × (ℕ × Answer)) → List Answer
answers_to place receiver said = own_answers receiver (own_answers place said)

abbrev pub calls_in : (receiver : ℕ) → Option Network → List NetworkCall → List Call
calls_in receiver None own = []
calls_in receiver (Some n) own = calls_to receiver n own

-- the calls that go to a receiver: those that name it, and its turns
abbrev pub calls_at : (place receiver : ℕ) → Radio → List RadioCall → List Call
calls_at place receiver r calls = calls_in receiver (slice_get r.networks place) (own_calls place r calls)

-- ---- the tickets that come for a receiver, by the calls that name it, in their order

abbrev pub came_for_by : (receiver : ℕ) → NetworkCall → List ℕ
came_for_by receiver (To other call) = if nat_eq other receiver then came_by call else []
came_for_by receiver (TurnOfOne now) = []
came_for_by receiver (NetworkPauses is_paused) = []

abbrev pub came_at_by : (place receiver : ℕ) → RadioCall → List ℕ
came_at_by place receiver (Of other whom call) = if nat_eq other place then came_for_by receiver (To whom call) else []
came_at_by place receiver (Next now) = []
came_at_by place receiver (NextOf other whom now) = []
came_at_by place receiver (Pauses other is_paused) = []
came_at_by place receiver (Used other units) = []

abbrev pub came_at : (place receiver : ℕ) → List RadioCall → List ℕ
came_at place receiver [] = []
came_at place receiver (call ∷ calls) = came_at_by place receiver call ++ came_at place receiver calls

-- ---- the laws

-- a receiver is, and is answered, what it would be alone by the calls that go to it, and its tickets come from these
abbrev pub IsReceiverAloneInRadio : Type 0
IsReceiverAloneInRadio = (r : Radio) (calls : List RadioCall) (place receiver : ℕ) (q : Queue)
    → receiver_at r place receiver ≡ Some q
    → let own = calls_at place receiver r calls in
    (receiver_at (radio_after r calls) place receiver ≡ Some (after q own))
    × (answers_to place receiver (radio_answers r calls) ≡ answers q own)
    × (came own ≡ came_at place receiver calls)

-- nothing vanishes: what was held of a receiver and came for it is what is held and what left, each as often
abbrev pub LosesNothing : Type 0
LosesNothing = (p : ℕ → Bool) (r : Radio) (calls : List RadioCall) (place receiver : ℕ) (q later : Queue)
    → receiver_at r place receiver ≡ Some q → receiver_at (radio_after r calls) place receiver ≡ Some later
    → held p q + count p (came_at place receiver calls)
    ≡ held p later + count (tells is_gone p) (answers_to place receiver (radio_answers r calls))

-- nothing is made up: from an empty receiver on, a ticket goes for the first time at most as often as it came for it
abbrev pub MakesNothingUp : Type 0
MakesNothingUp = (p : ℕ → Bool) (r : Radio) (calls : List RadioCall) (place receiver most : ℕ)
    → receiver_at r place receiver ≡ Some (new_queue most)
    → count (tells goes_first p) (answers_to place receiver (radio_answers r calls)) ≤ count p (came_at place receiver calls)

-- nor doubled: it goes once more at most as often as it was told that it waits for that, and this at most as often as it
-- went for the first time
abbrev pub DoublesNothing : Type 0
DoublesNothing = (p : ℕ → Bool) (r : Radio) (calls : List RadioCall) (place receiver most : ℕ)
    → receiver_at r place receiver ≡ Some (new_queue most)
    → let said = answers_to place receiver (radio_answers r calls) in
    (count (tells goes_again p) said ≤ count (tells waits_again p) said)
    × (count (tells waits_again p) said ≤ count (tells goes_first p) said)

-- first sendings are in the order in which frames came
abbrev pub KeepsOrder : Type 0
KeepsOrder = (r : Radio) (calls : List RadioCall) (place receiver most : ℕ)
    → receiver_at r place receiver ≡ Some (new_queue most)
    → IsWithin (went (answers_to place receiver (radio_answers r calls))) (came_at place receiver calls)

-- from when a station dozes until it wakes or joins, at most one unit goes to it for each poll
abbrev pub LetsSleep : Type 0
LetsSleep = (r : Radio) (calls : List RadioCall) (place receiver : ℕ) (q : Queue)
    → receiver_at r place receiver ≡ Some q → is_present q.mode ≡ true
    → let dozing = radio_step r (Of place receiver Dozes) in
    let own = calls_at place receiver dozing calls in
    all_stay_asleep own ≡ true
    → count is_new_unit (answers_to place receiver (radio_answers dozing calls)) ≤ count is_poll own

-- a station's polls are answered with one unit at a time
abbrev pub AnswersPollsInTurn : Type 0
AnswersPollsInTurn = (r : Radio) (calls : List RadioCall) (place receiver most : ℕ) (later : Queue)
    → receiver_at r place receiver ≡ Some (new_queue most) → receiver_at (radio_after r calls) place receiver ≡ Some later
    → answers_on_their_way later ≤ 1

-- ---- bounds

-- the frames of a network that wait, but for one of each receiver that waits to go once more
abbrev pub frames_waiting : Network → ℕ
frames_waiting n = sum (map (λ q. length q.waiting) n.receivers)

-- no more of them wait than may wait for its receivers together
abbrev pub HoldsFew : Type 0
HoldsFew = (r : Radio) (calls : List RadioCall) (place : ℕ) (mosts : List ℕ) (later : Network)
    → slice_get r.networks place ≡ Some (new_network mosts) → slice_get (radio_after r calls).networks place ≡ Some later
    → frames_waiting later ≤ sum mosts
