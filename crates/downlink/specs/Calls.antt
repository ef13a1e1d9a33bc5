-- The calls of a receiver's queue, what they change, and what they answer.
use Rattle.std.specs.Prelude.{ℕ, Bool, List, [], ◌∷◌, ◌++◌, Option, None}
use Rattle.std.specs.Option.{option_map, option_to_list}
use Rattle.downlink.specs.declared.answer.Answer.{Answer}
use Rattle.downlink.specs.declared.frame.Way.TheVariants.{IsDropped}
use Rattle.downlink.specs.declared.station_change.StationChange.{StationChange}
use Rattle.downlink.specs.declared.station_change.StationChange.TheVariants as changes
use Rattle.downlink.specs.declared.station_mode.StationMode.TheVariants.{Absent, Awake}
use Rattle.downlink.specs.Receiver.{Queue, frame_that_comes, after_coming, crowded_out, next_sent, turn_answer}
use Rattle.downlink.specs.Receiver.{after_turn, without_next, giving_up_answer}
use Rattle.downlink.specs.Receiver.{first_that, has_ticket, told_answer, after_told, next_leaving, leaving_answer}
use Rattle.downlink.specs.Receiver.{without_leaving}
use Rattle.downlink.specs.Receiver.{in_mode, after_dozing, after_settling, after_waking, after_polling}

pub data Call : Type 0 where
  -- a frame comes
  Comes : (ticket : ℕ) → (is_unit : Bool) → (until now : ℕ) → Call
  -- it is the receiver's turn
  Turn : (now : ℕ) → Call
  -- a ticket was acknowledged, or it wasn't
  Told : (ticket : ℕ) → (is_acknowledged : Bool) → Call
  -- the next one goes back or is dropped that won't go
  Returns : Call
  -- the next one that would go leaves without going
  GivesUp : Call
  -- the station is associated
  Joins : Call
  -- it isn't associated any more
  Leaves : Call
  -- it says that it dozes
  Dozes : Call
  -- all is answered that came before it said so
  Settles : Call
  -- it says that it is awake
  Wakes : Call
  -- it polls, and is answered until this time
  Polls : (until : ℕ) → Call

-- what a station does, as a call
abbrev pub call_of : StationChange → Call
call_of changes.Joins = Joins
call_of changes.Leaves = Leaves
call_of changes.Dozes = Dozes
call_of changes.Settles = Settles
call_of changes.Wakes = Wakes
call_of (changes.Polls until) = Polls until

abbrev pub step : Queue → Call → Queue
step q (Comes ticket is_unit until now) = after_coming (frame_that_comes ticket is_unit until now q) q
step q (Turn now) = after_turn now q (next_sent q)
step q (Told ticket is_acknowledged) =
    after_told ticket is_acknowledged q (first_that (has_ticket ticket) q.out)
step q Returns = without_leaving q
step q GivesUp = without_next q
step q Joins = record q { mode = Awake; right = None }
step q Leaves = in_mode Absent IsDropped q
step q Dozes = after_dozing q.mode q
step q Settles = after_settling q.mode q
step q Wakes = after_waking q.mode q
step q (Polls until) = after_polling until q.mode q

abbrev pub answer : Queue → Call → Option Answer
answer q (Comes ticket is_unit until now) =
    crowded_out q.most (q.waiting ++ frame_that_comes ticket is_unit until now q ∷ [])
answer q (Turn now) = turn_answer now q.mode (next_sent q)
answer q (Told ticket is_acknowledged) = told_answer is_acknowledged q (first_that (has_ticket ticket) q.out)
answer q Returns = option_map leaving_answer (next_leaving q)
answer q GivesUp = option_map (giving_up_answer q.mode) (next_sent q)
answer q Joins = None
answer q Leaves = None
answer q Dozes = None
answer q Settles = None
answer q Wakes = None
answer q (Polls until) = None

-- the queue after some calls
abbrev pub after : Queue → List Call → Queue
after q [] = q
after q (call ∷ calls) = after (step q call) calls

-- all that they answered
abbrev pub answers : Queue → List Call → List Answer
answers q [] = []
answers q (call ∷ calls) = option_to_list (answer q call) ++ answers (step q call) calls
