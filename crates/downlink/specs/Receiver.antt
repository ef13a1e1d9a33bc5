-- What waits for one receiver of a network on its way to the air, and what becomes of it (IEEE Std 802.11-2016, 11.2).
use Rattle.std.specs.Prelude.{ℕ, Bool, true, false, not, ◌&&◌, ◌||◌, nat_eq, nat_lt, nat_le, List, [], ◌∷◌, ◌++◌, length}
use Rattle.std.specs.Prelude.{map, Option, Some, None, is_some, if◌then◌else◌}
use Rattle.std.specs.Option.{option_map}
use Rattle.std.specs.List.{list_any}
use Rattle.downlink.specs.declared.frame.Frame.{Frame}
use Rattle.downlink.specs.declared.frame.Sent.{Sent}
use Rattle.downlink.specs.declared.frame.Way.{Way}
use Rattle.downlink.specs.declared.frame.Way.TheVariants.{InTurn, AnswersPoll, GoesBack, IsDropped}
use Rattle.downlink.specs.declared.answer.Answer.{Answer}
use Rattle.downlink.specs.declared.answer.Fate.{Fate}
use Rattle.downlink.specs.declared.answer.Fate.TheVariants.{Goes, GoesAgain, Acknowledged, WaitsAgain, Lost, HandedBack}
use Rattle.downlink.specs.declared.answer.Fate.TheVariants.{Late, Crowded, Left, GivenUp}
use Rattle.downlink.specs.declared.station_mode.StationMode.{StationMode}
use Rattle.downlink.specs.declared.station_mode.StationMode.TheVariants.{Absent, Awake, FallsAsleep, Dozing}

-- what is known of a receiver
pub record Queue : Type 0 where
  -- the most frames that wait (profile)
  pub most : ℕ
  pub mode : StationMode
  -- until when a unit may answer the station's last poll, if one still may
  pub right : Option ℕ
  -- in the order in which they came
  pub waiting : List Frame
  -- the unit that waits to go once more
  pub again : Option Frame
  -- what went, and of which nothing was told yet, in the order in which it went
  pub out : List Sent
  -- the ticket that went last, if it may go once more
  pub last : Option ℕ

-- a receiver before anything happened
abbrev pub new_queue : (most : ℕ) → Queue
new_queue most = record { most = most; mode = Absent; right = None; waiting = []; again = None; out = []; last = None }

-- ---- lists

-- the first that passes a test
abbrev pub first_that : {X : Type 0} → (X → Bool) → List X → Option X
first_that test [] = None
first_that test (x ∷ xs) = if test x then Some x else first_that test xs

-- the others
abbrev pub without_first : {X : Type 0} → (X → Bool) → List X → List X
without_first test [] = []
without_first test (x ∷ xs) = if test x then xs else x ∷ without_first test xs

-- ---- frames and stations

-- it goes when its turn comes
abbrev pub way_goes : Way → Bool
way_goes InTurn = true
way_goes AnswersPoll = true
way_goes GoesBack = false
way_goes IsDropped = false

abbrev pub goes : Frame → Bool
goes f = way_goes f.way

-- it goes, or it leaves without going
abbrev pub takes_way : (goes : Bool) → Frame → Bool
takes_way true f = goes f
takes_way false f = not (goes f)

abbrev pub is_asleep : StationMode → Bool
is_asleep Absent = false
is_asleep Awake = false
is_asleep FallsAsleep = true
is_asleep Dozing = true

-- a unit takes another way from now on
abbrev pub sent_another_way : Way → Frame → Frame
sent_another_way way f = if f.is_unit then record f { way = way } else f

-- ---- a frame comes

-- the station polled, and the answer may still go
abbrev pub may_answer : (now : ℕ) → Option ℕ → Bool
may_answer now None = false
may_answer now (Some until) = nat_le now until

-- what becomes of a unit that comes
abbrev pub unit_way : (now : ℕ) → StationMode → Option ℕ → Way
unit_way now Absent right = IsDropped
unit_way now Awake right = InTurn
unit_way now FallsAsleep right = GoesBack
unit_way now Dozing right = if may_answer now right then AnswersPoll else GoesBack

-- what becomes of a frame that comes: all but units go
abbrev pub way_of : (is_unit : Bool) → (now : ℕ) → StationMode → Option ℕ → Way
way_of true now mode right = unit_way now mode right
way_of false now mode right = InTurn

-- a poll is answered by one unit
abbrev pub right_beside : Way → Option ℕ → Option ℕ
right_beside InTurn right = right
right_beside AnswersPoll right = None
right_beside GoesBack right = right
right_beside IsDropped right = right

abbrev pub fate_answer : Fate → Frame → Answer
fate_answer fate f = record { frame = f; fate = fate }

-- of more frames than may wait the oldest is dropped
abbrev pub within : (most : ℕ) → List Frame → List Frame
within most [] = []
within most (f ∷ fs) = if nat_lt most (length (f ∷ fs)) then fs else f ∷ fs

abbrev pub crowded_out : (most : ℕ) → List Frame → Option Answer
crowded_out most [] = None
crowded_out most (f ∷ fs) = if nat_lt most (length (f ∷ fs)) then Some (fate_answer Crowded f) else None

abbrev pub frame_that_comes : (ticket : ℕ) → (is_unit : Bool) → (until now : ℕ) → Queue → Frame
frame_that_comes ticket is_unit until now q =
    record { ticket = ticket; is_unit = is_unit; until = until; way = way_of is_unit now q.mode q.right }

abbrev pub after_coming : Frame → Queue → Queue
after_coming f q = record q { waiting = within q.most (q.waiting ++ f ∷ []); right = right_beside f.way q.right }

-- ---- it is the receiver's turn

abbrev pub for_first_time : Frame → Sent
for_first_time f = record { frame = f; is_again = false }

-- the one that waits to go once more if it passes a test, or else the first that waits and passes it
abbrev pub first_by : (Frame → Bool) → Option Frame → List Frame → Option Sent
first_by test None waiting = option_map for_first_time (first_that test waiting)
first_by test (Some f) waiting =
    if test f then Some (record { frame = f; is_again = true }) else option_map for_first_time (first_that test waiting)

-- what waits without that one
abbrev pub again_without : (Frame → Bool) → Option Frame → Option Frame
again_without test None = None
again_without test (Some f) = if test f then None else Some f

abbrev pub waiting_without : (Frame → Bool) → Option Frame → List Frame → List Frame
waiting_without test None waiting = without_first test waiting
waiting_without test (Some f) waiting = if test f then waiting else without_first test waiting

abbrev pub without_by : (Frame → Bool) → Queue → Queue
without_by test q =
    record q { waiting = waiting_without test q.again q.waiting; again = again_without test q.again }

abbrev pub next_sent : Queue → Option Sent
next_sent q = first_by (takes_way true) q.again q.waiting

-- a frame may go when its turn comes
abbrev pub may_go : Queue → Bool
may_go q = is_some (next_sent q)

abbrev pub without_next : Queue → Queue
without_next q = without_by (takes_way true) q

-- a frame goes
abbrev pub is_sending : Fate → Bool
is_sending Goes = true
is_sending GoesAgain = true
is_sending Acknowledged = false
is_sending WaitsAgain = false
is_sending Lost = false
is_sending HandedBack = false
is_sending Late = false
is_sending Crowded = false
is_sending Left = false
is_sending GivenUp = false

-- a unit that didn't reach its station goes back to the program where that dozes
abbrev pub unsent_fate : Fate → StationMode → Frame → Fate
unsent_fate fate mode f = if f.is_unit && is_asleep mode then HandedBack else fate

abbrev pub sending_fate : Sent → Fate
sending_fate s = if s.is_again then GoesAgain else Goes

abbrev pub turn_answer : (now : ℕ) → StationMode → Option Sent → Option Answer
turn_answer now mode None = None
turn_answer now mode (Some s) =
    if nat_lt s.frame.until now then Some (fate_answer (unsent_fate Late mode s.frame) s.frame)
    else Some (fate_answer (sending_fate s) s.frame)

abbrev pub after_turn : (now : ℕ) → Queue → Option Sent → Queue
after_turn now q None = q
after_turn now q (Some s) =
    if nat_lt s.frame.until now then without_next q
    else record (without_next q) { out = q.out ++ s ∷ []; last = Some s.frame.ticket }

-- ---- what became of one is told

abbrev pub has_ticket : (ticket : ℕ) → Sent → Bool
has_ticket ticket s = nat_eq s.frame.ticket ticket

abbrev pub is_last : (ticket : ℕ) → Option ℕ → Bool
is_last ticket None = false
is_last ticket (Some last) = nat_eq last ticket

-- a unit that nobody acknowledged goes once more, where nothing went to its station since
abbrev pub again_beside : Option Frame → Bool → Bool
again_beside None may = may
again_beside (Some f) may = false

abbrev pub may_go_again : Queue → Sent → Bool
may_go_again q s =
    again_beside q.again (s.frame.is_unit && not s.is_again && is_last s.frame.ticket q.last)

abbrev pub lost_answer : Queue → Sent → Answer
lost_answer q s =
    if may_go_again q s then fate_answer WaitsAgain s.frame else fate_answer (unsent_fate Lost q.mode s.frame) s.frame

abbrev pub told_answer : (is_acknowledged : Bool) → Queue → Option Sent → Option Answer
told_answer is_acknowledged q None = None
told_answer true q (Some s) = Some (fate_answer Acknowledged s.frame)
told_answer false q (Some s) = Some (lost_answer q s)

abbrev pub after_loss : (ticket : ℕ) → Queue → Sent → Queue
after_loss ticket q s = record q {
  out = without_first (has_ticket ticket) q.out;
  again = if may_go_again q s then Some s.frame else q.again;
  last = if may_go_again q s then None else q.last;
}

abbrev pub after_told : (ticket : ℕ) → (is_acknowledged : Bool) → Queue → Option Sent → Queue
after_told ticket is_acknowledged q None = q
after_told ticket true q (Some s) = record q { out = without_first (has_ticket ticket) q.out }
after_told ticket false q (Some s) = after_loss ticket q s

-- ---- what goes back or is dropped

abbrev pub leaving_fate : Way → Fate
leaving_fate InTurn = Left
leaving_fate AnswersPoll = Left
leaving_fate GoesBack = HandedBack
leaving_fate IsDropped = Left

abbrev pub leaving_answer : Sent → Answer
leaving_answer s = fate_answer (leaving_fate s.frame.way) s.frame

abbrev pub next_leaving : Queue → Option Sent
next_leaving q = first_by (takes_way false) q.again q.waiting

abbrev pub without_leaving : Queue → Queue
without_leaving q = without_by (takes_way false) q

-- ---- its caller gives the next one up

abbrev pub giving_up_answer : StationMode → Sent → Answer
giving_up_answer mode s = fate_answer (unsent_fate GivenUp mode s.frame) s.frame

-- ---- the station changes its mode

-- its units take another way, and nothing that went before goes once more
abbrev pub in_mode : StationMode → Way → Queue → Queue
in_mode mode way q = record q {
  mode = mode;
  right = None;
  waiting = map (sent_another_way way) q.waiting;
  again = option_map (sent_another_way way) q.again;
  last = None;
}

abbrev pub after_dozing : StationMode → Queue → Queue
after_dozing Absent q = q
after_dozing Awake q = in_mode FallsAsleep GoesBack q
after_dozing FallsAsleep q = in_mode FallsAsleep GoesBack q
after_dozing Dozing q = in_mode FallsAsleep GoesBack q

abbrev pub after_settling : StationMode → Queue → Queue
after_settling Absent q = q
after_settling Awake q = q
after_settling FallsAsleep q = record q { mode = Dozing }
after_settling Dozing q = q

abbrev pub after_waking : StationMode → Queue → Queue
after_waking Absent q = q
after_waking Awake q = q
after_waking FallsAsleep q = record q { mode = Awake; right = None }
after_waking Dozing q = record q { mode = Awake; right = None }

-- ---- the station polls

abbrev pub way_answers : Way → Bool
way_answers InTurn = false
way_answers AnswersPoll = true
way_answers GoesBack = false
way_answers IsDropped = false

-- a unit that answers a poll
abbrev pub answers_poll : Frame → Bool
answers_poll f = f.is_unit && way_answers f.way

abbrev pub is_unit_sent : Sent → Bool
is_unit_sent s = s.frame.is_unit

-- until the answer to a poll succeeded or is presumed failed, all polls of its station are ignored (11.2.3.6). Units
-- that went before it dozed count too (profile)
abbrev pub ignores_polls : Queue → Bool
ignores_polls q = list_any answers_poll q.waiting || is_some q.again || list_any is_unit_sent q.out

-- nobody's are where there is no such receiver
abbrev pub are_ignored : Option Queue → Bool
are_ignored None = false
are_ignored (Some q) = ignores_polls q

abbrev pub right_after_poll : (until : ℕ) → (is_ignored : Bool) → Option ℕ → Option ℕ
right_after_poll until true right = right
right_after_poll until false right = Some until

abbrev pub after_polling : (until : ℕ) → StationMode → Queue → Queue
after_polling until Absent q = q
after_polling until Awake q = q
after_polling until FallsAsleep q = q
after_polling until Dozing q = record q { right = right_after_poll until (ignores_polls q) q.right }
