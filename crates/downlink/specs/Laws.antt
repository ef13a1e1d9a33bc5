-- What becomes of all frames of a receiver, over any list of calls.
use Rattle.std.specs.Prelude.{ℕ, ◌≡◌, ◌≤◌, ◌+◌, Bool, true, false, ◌&&◌, List, [], ◌∷◌, ◌++◌, length, map}
use Rattle.std.specs.Prelude.{◌⊎◌, Option, Some, None}
use Rattle.std.specs.Option.{option_to_list}
use Rattle.downlink.specs.declared.frame.Frame.{Frame}
use Rattle.downlink.specs.declared.frame.Sent.{Sent}
use Rattle.downlink.specs.declared.answer.Answer.{Answer}
use Rattle.downlink.specs.declared.answer.Fate.{Fate}
use Rattle.downlink.specs.declared.answer.Fate.TheVariants.{Goes, GoesAgain, Acknowledged, WaitsAgain, Lost, HandedBack}
use Rattle.downlink.specs.declared.answer.Fate.TheVariants.{Late, Crowded, Left, GivenUp}
use Rattle.downlink.specs.declared.station_mode.StationMode.{StationMode}
use Rattle.downlink.specs.declared.station_mode.StationMode.TheVariants.{Absent, Awake, FallsAsleep, Dozing}
use Rattle.downlink.specs.Receiver.{Queue, new_queue, answers_poll}
use Rattle.downlink.specs.Calls.{Call, Comes, Turn, Told, Returns, GivesUp, Joins, Leaves, Dozes, Settles, Wakes, Polls}
use Rattle.downlink.specs.Calls.{step, after, answers}

-- ---- how many

abbrev pub one_if : Bool → ℕ
one_if true = 1
one_if false = 0

-- how many of a list pass a test
abbrev pub count : {X : Type 0} → (X → Bool) → List X → ℕ
count test [] = 0
count test (x ∷ xs) = one_if (test x) + count test xs

-- a test of tickets, of frames and of what went
abbrev pub has : (ℕ → Bool) → Frame → Bool
has p f = p f.ticket

abbrev pub has_sent : (ℕ → Bool) → Sent → Bool
has_sent p s = p s.frame.ticket

-- how many frames with such tickets wait or are out
abbrev pub held : (ℕ → Bool) → Queue → ℕ
held p q = count (has p) q.waiting + count (has p) (option_to_list q.again) + count (has_sent p) q.out

-- such a ticket comes
abbrev pub brings : (ℕ → Bool) → Call → Bool
brings p (Comes ticket is_unit until now) = p ticket
brings p (Turn now) = false
brings p (Told ticket is_acknowledged) = false
brings p Returns = false
brings p GivesUp = false
brings p Joins = false
brings p Leaves = false
brings p Dozes = false
brings p Settles = false
brings p Wakes = false
brings p (Polls until) = false

-- it has left the queue for good
abbrev pub is_gone : Fate → Bool
is_gone Goes = false
is_gone GoesAgain = false
is_gone Acknowledged = true
is_gone WaitsAgain = false
is_gone Lost = true
is_gone HandedBack = true
is_gone Late = true
is_gone Crowded = true
is_gone Left = true
is_gone GivenUp = true

abbrev pub goes_first : Fate → Bool
goes_first Goes = true
goes_first GoesAgain = false
goes_first Acknowledged = false
goes_first WaitsAgain = false
goes_first Lost = false
goes_first HandedBack = false
goes_first Late = false
goes_first Crowded = false
goes_first Left = false
goes_first GivenUp = false

abbrev pub goes_again : Fate → Bool
goes_again Goes = false
goes_again GoesAgain = true
goes_again Acknowledged = false
goes_again WaitsAgain = false
goes_again Lost = false
goes_again HandedBack = false
goes_again Late = false
goes_again Crowded = false
goes_again Left = false
goes_again GivenUp = false

abbrev pub waits_again : Fate → Bool
waits_again Goes = false
waits_again GoesAgain = false
waits_again Acknowledged = false
waits_again WaitsAgain = true
waits_again Lost = false
waits_again HandedBack = false
waits_again Late = false
waits_again Crowded = false
waits_again Left = false
waits_again GivenUp = false

-- an answer of such a fate of such a ticket
abbrev pub tells : (Fate → Bool) → (ℕ → Bool) → Answer → Bool
tells fates p a = fates a.fate && p a.frame.ticket

-- ---- nothing vanishes: what was held and what came is what is held and what left, each as often

abbrev pub IsConserved : Type 0
IsConserved = (p : ℕ → Bool) (q : Queue) (calls : List Call)
    → held p q + count (brings p) calls ≡ held p (after q calls) + count (tells is_gone p) (answers q calls)

-- ---- nothing is made up or doubled

-- from an empty queue on, a ticket goes for the first time at most as often as it came
abbrev pub IsNotMadeUp : Type 0
IsNotMadeUp = (p : ℕ → Bool) (most : ℕ) (calls : List Call)
    → count (tells goes_first p) (answers (new_queue most) calls) ≤ count (brings p) calls

-- a ticket goes once more at most as often as it was told that nobody acknowledged it, and that at most as often as it
-- went for the first time
abbrev pub GoesAtMostTwice : Type 0
GoesAtMostTwice = (p : ℕ → Bool) (most : ℕ) (calls : List Call)
    → let said = answers (new_queue most) calls in
    (count (tells goes_again p) said ≤ count (tells waits_again p) said)
    × (count (tells waits_again p) said ≤ count (tells goes_first p) said)

-- ---- order

-- the first list is the second one, with some left out
abbrev pub IsWithin : {X : Type 0} → List X → List X → Type 0
IsWithin xs [] = xs ≡ []
IsWithin {X} xs (y ∷ ys) = IsWithin xs ys ⊎ ((rest : List X) × (xs ≡ y ∷ rest) × IsWithin rest ys)

abbrev pub ticket_if : Bool → ℕ → List ℕ
ticket_if true ticket = ticket ∷ []
ticket_if false ticket = []

abbrev pub came_by : Call → List ℕ
came_by (Comes ticket is_unit until now) = ticket ∷ []
came_by (Turn now) = []
came_by (Told ticket is_acknowledged) = []
came_by Returns = []
came_by GivesUp = []
came_by Joins = []
came_by Leaves = []
came_by Dozes = []
came_by Settles = []
came_by Wakes = []
came_by (Polls until) = []

-- the tickets that come, in their order
abbrev pub came : List Call → List ℕ
came [] = []
came (call ∷ calls) = came_by call ++ came calls

-- the tickets that go for the first time, in their order
abbrev pub went : List Answer → List ℕ
went [] = []
went (a ∷ more) = ticket_if (goes_first a.fate) a.frame.ticket ++ went more

-- first sendings are in the order in which frames came
abbrev pub IsInOrder : Type 0
IsInOrder = (most : ℕ) (calls : List Call) → IsWithin (went (answers (new_queue most) calls)) (came calls)

abbrev pub tickets : List Frame → List ℕ
tickets frames = map (λ f. f.ticket) frames

-- frames wait in the order in which they came
abbrev pub WaitsInOrder : Type 0
WaitsInOrder = (most : ℕ) (calls : List Call) → IsWithin (tickets (after (new_queue most) calls).waiting) (came calls)

-- ---- sleep

-- a station that isn't awake stays so
abbrev pub stays_asleep : Call → Bool
stays_asleep (Comes ticket is_unit until now) = true
stays_asleep (Turn now) = true
stays_asleep (Told ticket is_acknowledged) = true
stays_asleep Returns = true
stays_asleep GivesUp = true
stays_asleep Joins = false
stays_asleep Leaves = true
stays_asleep Dozes = true
stays_asleep Settles = true
stays_asleep Wakes = false
stays_asleep (Polls until) = true

abbrev pub all_stay_asleep : List Call → Bool
all_stay_asleep [] = true
all_stay_asleep (call ∷ calls) = stays_asleep call && all_stay_asleep calls

abbrev pub is_poll : Call → Bool
is_poll (Comes ticket is_unit until now) = false
is_poll (Turn now) = false
is_poll (Told ticket is_acknowledged) = false
is_poll Returns = false
is_poll GivesUp = false
is_poll Joins = false
is_poll Leaves = false
is_poll Dozes = false
is_poll Settles = false
is_poll Wakes = false
is_poll (Polls until) = true

abbrev pub is_present : StationMode → Bool
is_present Absent = false
is_present Awake = true
is_present FallsAsleep = true
is_present Dozing = true

-- a unit goes for the first time
abbrev pub is_new_unit : Answer → Bool
is_new_unit a = goes_first a.fate && a.frame.is_unit

-- from when a station dozes until it wakes or joins, at most one unit goes to it for each poll
abbrev pub GoesByPolls : Type 0
GoesByPolls = (q : Queue) (calls : List Call) → is_present q.mode ≡ true → all_stay_asleep calls ≡ true
    → count is_new_unit (answers (step q Dozes) calls) ≤ count is_poll calls

-- how many units may answer a poll that may still be answered
abbrev pub right_count : Option ℕ → ℕ
right_count None = 0
right_count (Some until) = 1

abbrev pub is_answer_sent : Sent → Bool
is_answer_sent s = answers_poll s.frame

-- the answers to polls that wait, wait to go once more, are out, or may still come
abbrev pub answers_on_their_way : Queue → ℕ
answers_on_their_way q =
    count answers_poll q.waiting + count answers_poll (option_to_list q.again) + count is_answer_sent q.out + right_count q.right

-- an AP answers a station's polls with one unit at a time (11.2.3.6)
abbrev pub AnswersOneAtATime : Type 0
AnswersOneAtATime = (most : ℕ) (calls : List Call) → answers_on_their_way (after (new_queue most) calls) ≤ 1

-- ---- bounds: no more frames wait than may

abbrev pub IsBounded : Type 0
IsBounded = (most : ℕ) (calls : List Call) → length (after (new_queue most) calls).waiting ≤ most
