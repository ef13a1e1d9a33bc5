-- What waits of a network, whose turn it is among its receivers, and what calls change and answer.
use Rattle.std.specs.Prelude.{ℕ, zero, suc, ◌+◌, Bool, false, List, [], ◌∷◌, ◌++◌, map}
use Rattle.std.specs.Prelude.{Option, Some, None, is_some, if◌then◌else◌}
use Rattle.std.specs.Option.{option_map, option_to_list}
use Rattle.downlink.specs.declared.answer.Answer.{Answer}
use Rattle.downlink.specs.declared.network_queue.ReceiverAnswer.{ReceiverAnswer}
use Rattle.downlink.specs.Receiver.{Queue, new_queue, may_go, is_sending}
use Rattle.downlink.specs.Calls.{Call, Turn, step, answer}
use Rattle.downlink.specs.Parts.{after_one, answer_of_one, own_call}

pub record Network : Type 0 where
  -- each at a place: the groups and the stations
  pub receivers : List Queue
  -- from this place on the next turn is looked for
  pub from : ℕ
  -- whether it has no turn, until it is told otherwise
  pub is_paused : Bool

-- a network before anything happened, where so many frames may wait for each receiver
abbrev pub new_network : (mosts : List ℕ) → Network
new_network mosts = record { receivers = map new_queue mosts; from = 0; is_paused = false }

-- ---- whose turn it is: each receiver of which a frame may go has its turn once in a round, unless calls name others

-- from a place on the first receiver of which a frame may go
abbrev pub first_from : (from : ℕ) → List Queue → Option ℕ
first_from from [] = None
first_from zero (q ∷ qs) = if may_go q then Some zero else option_map suc (first_from zero qs)
first_from (suc from) (q ∷ qs) = option_map suc (first_from from qs)

-- the first place, or else the second
abbrev pub or_else : Option ℕ → Option ℕ → Option ℕ
or_else None other = other
or_else (Some place) other = Some place

-- while the network is paused it has no turn
abbrev pub turn_of : Network → Option ℕ
turn_of n = if n.is_paused then None else or_else (first_from n.from n.receivers) (first_from zero n.receivers)

-- a frame of it may go, and it isn't paused
abbrev pub has_next : Network → Bool
has_next n = is_some (turn_of n)

-- ---- calls

pub data NetworkCall : Type 0 where
  -- a call of the receiver at a place
  To : (receiver : ℕ) → Call → NetworkCall
  -- it is the network's turn, and so that of one receiver
  TurnOfOne : (now : ℕ) → NetworkCall
  -- the network is paused, or it isn't any more
  Pauses : (is_paused : Bool) → NetworkCall

-- the receiver that a call goes to, if it goes to one, and what it is there
abbrev pub goes_to : Network → NetworkCall → Option (ℕ × Call)
goes_to n (To receiver call) = Some (receiver, call)
goes_to n (TurnOfOne now) = option_map (λ receiver. (receiver, Turn now)) (turn_of n)
goes_to n (Pauses is_paused) = None

abbrev pub network_answer : Network → NetworkCall → Option (ℕ × Answer)
network_answer n call = answer_of_one answer (goes_to n call) n.receivers

-- the next turn is looked for behind a receiver of which a frame went
abbrev pub from_after : (from : ℕ) → Option (ℕ × Answer) → ℕ
from_after from None = from
from_after from (Some told) = if is_sending told.1.fate then told.0 + 1 else from

-- a turn of a receiver that is named leaves that place as it was
abbrev pub network_from : Network → NetworkCall → ℕ
network_from n (To receiver call) = n.from
network_from n (TurnOfOne now) = from_after n.from (network_answer n (TurnOfOne now))
network_from n (Pauses is_paused) = n.from

abbrev pub is_paused_after : Network → NetworkCall → Bool
is_paused_after n (To receiver call) = n.is_paused
is_paused_after n (TurnOfOne now) = n.is_paused
is_paused_after n (Pauses is_paused) = is_paused

abbrev pub network_step : Network → NetworkCall → Network
network_step n call = record {
  receivers = after_one step (goes_to n call) n.receivers;
  from = network_from n call;
  is_paused = is_paused_after n call;
}

-- as calls return it
abbrev pub receiver_answer : ℕ × Answer → ReceiverAnswer
receiver_answer told = record { receiver = told.0; answer = told.1 }

-- the network after some calls
abbrev pub network_after : Network → List NetworkCall → Network
network_after n [] = n
network_after n (call ∷ calls) = network_after (network_step n call) calls

-- all that they answered
abbrev pub network_answers : Network → List NetworkCall → List (ℕ × Answer)
network_answers n [] = []
network_answers n (call ∷ calls) = option_to_list (network_answer n call) ++ network_answers (network_step n call) calls

-- ---- a receiver alone

-- the calls that go to the receiver at a place
abbrev pub calls_to : (receiver : ℕ) → Network → List NetworkCall → List Call
calls_to receiver n [] = []
calls_to receiver n (call ∷ calls) = own_call receiver (goes_to n call) ++ calls_to receiver (network_step n call) calls
