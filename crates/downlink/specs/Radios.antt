-- What waits of the networks of a radio, which of them goes next, and what calls change and answer.
use Rattle.std.specs.Prelude.{ℕ, ◌/◌, Bool, true, false, List, [], ◌∷◌, ◌++◌, map, Option, Some, None, slice_get}
use Rattle.std.specs.Prelude.{if◌then◌else◌}
use Rattle.std.specs.Option.{option_map, option_and_then, option_to_list}
use Rattle.air_share.specs.declared.lane.Lane.{Lane}
use Rattle.air_share.specs.Lanes.{chosen}
use Rattle.air_share.specs.LaneRuns.{LaneEvent, Waits, Serve, Tell, lanes_after, is_turn_of}
use Rattle.downlink.specs.declared.answer.Answer.{Answer}
use Rattle.downlink.specs.declared.network_queue.ReceiverAnswer.{ReceiverAnswer}
use Rattle.downlink.specs.declared.radio_queue.NetworkAnswer.{NetworkAnswer}
use Rattle.downlink.specs.Receiver.{Queue, is_sending}
use Rattle.downlink.specs.Calls.{Call, Turn}
use Rattle.downlink.specs.Parts.{after_one, answer_of_one, own_call}
use Rattle.downlink.specs.Networks.{Network, new_network, has_next, NetworkCall, To, TurnOfOne, network_step, network_answer}
use Rattle.downlink.specs.Networks.{Pauses as NetworkPauses, receiver_answer, network_after, network_answers}

pub record Radio : Type 0 where
  -- at each place what the rule of shares keeps of a network
  pub lanes : List Lane
  -- at each place what waits of it
  pub networks : List Network

-- as the rule begins with a network: the least common multiple of 1 to 16, over the weight
abbrev pub new_lane : (weight : ℕ) → Lane
new_lane weight = record { debt = 0; scale = 720720 / weight; waits = false }

-- a radio before anything happened, of networks of these weights, where so many frames may wait for each receiver
abbrev pub new_radio : List (ℕ × List ℕ) → Radio
new_radio settings =
    record { lanes = map (λ setting. new_lane setting.0) settings; networks = map (λ setting. new_network setting.1) settings }

-- a network more, at the next place
abbrev pub with_network : Radio → (weight : ℕ) → Network → Radio
with_network r weight n = record {
  lanes = r.lanes ++ record (new_lane weight) { waits = has_next n } ∷ [];
  networks = r.networks ++ n ∷ [];
}

-- what waits for a receiver, if it is there
abbrev pub receiver_at : Radio → (place receiver : ℕ) → Option Queue
receiver_at r place receiver = option_and_then (λ n. slice_get n.receivers receiver) (slice_get r.networks place)

-- ---- calls

pub data RadioCall : Type 0 where
  -- a call of a receiver of the network at a place
  Of : (place receiver : ℕ) → Call → RadioCall
  -- one network's turn comes, if one has a frame that may go
  Next : (now : ℕ) → RadioCall
  -- the turn of the network at a place comes, if it is the one whose turn it is, and there that of this receiver
  NextOf : (place receiver now : ℕ) → RadioCall
  -- the network at a place is paused, or it isn't any more
  Pauses : (place : ℕ) → (is_paused : Bool) → RadioCall
  -- the network at a place used so many time units of air
  Used : (place units : ℕ) → RadioCall

-- the network that a call goes to, if it goes to one, and what it is there
abbrev pub goes_to_network : Radio → RadioCall → Option (ℕ × NetworkCall)
goes_to_network r (Of place receiver call) = Some (place, To receiver call)
goes_to_network r (Next now) = option_map (λ place. (place, TurnOfOne now)) (chosen r.lanes)
goes_to_network r (NextOf place receiver now) =
    if is_turn_of place (chosen r.lanes) then Some (place, To receiver (Turn now)) else None
goes_to_network r (Pauses place is_paused) = Some (place, NetworkPauses is_paused)
goes_to_network r (Used place units) = None

abbrev pub radio_answer : Radio → RadioCall → Option (ℕ × (ℕ × Answer))
radio_answer r call = answer_of_one network_answer (goes_to_network r call) r.networks

abbrev pub networks_after : Radio → RadioCall → List Network
networks_after r call = after_one network_step (goes_to_network r call) r.networks

-- ---- what calls are to the rule of shares

-- from now on the network at a place waits exactly if a frame of it may go
abbrev pub waits_now : (place : ℕ) → Option Network → List LaneEvent
waits_now place None = []
waits_now place (Some n) = Waits place (has_next n) ∷ []

abbrev pub waits_after : List Network → Option (ℕ × NetworkCall) → List LaneEvent
waits_after networks None = []
waits_after networks (Some given) = waits_now given.0 (slice_get networks given.0)

-- a frame goes
abbrev pub is_sent : Option (ℕ × (ℕ × Answer)) → Bool
is_sent None = false
is_sent (Some told) = is_sending told.1.1.fate

-- a turn by which a frame goes: what air it takes is told by a later call
abbrev pub turn_if : Bool → List LaneEvent
turn_if true = Serve 0 ∷ []
turn_if false = []

abbrev pub air_events : Radio → RadioCall → List LaneEvent
air_events r (Of place receiver call) = []
air_events r (Next now) = turn_if (is_sent (radio_answer r (Next now)))
air_events r (NextOf place receiver now) = turn_if (is_sent (radio_answer r (NextOf place receiver now)))
air_events r (Pauses place is_paused) = []
air_events r (Used place units) = Tell place units ∷ []

abbrev pub lane_events_by : Radio → RadioCall → List LaneEvent
lane_events_by r call = air_events r call ++ waits_after (networks_after r call) (goes_to_network r call)

-- ---- what a call changes

abbrev pub radio_step : Radio → RadioCall → Radio
radio_step r call = record { lanes = lanes_after r.lanes (lane_events_by r call); networks = networks_after r call }

-- as calls return it
abbrev pub answer_from : (network : ℕ) → ReceiverAnswer → NetworkAnswer
answer_from network told = record { network = network; answer = told }

abbrev pub network_answer_of : ℕ × (ℕ × Answer) → NetworkAnswer
network_answer_of told = answer_from told.0 (receiver_answer told.1)

-- the radio's networks after some calls
abbrev pub radio_after : Radio → List RadioCall → Radio
radio_after r [] = r
radio_after r (call ∷ calls) = radio_after (radio_step r call) calls

-- all that they answered
abbrev pub radio_answers : Radio → List RadioCall → List (ℕ × (ℕ × Answer))
radio_answers r [] = []
radio_answers r (call ∷ calls) = option_to_list (radio_answer r call) ++ radio_answers (radio_step r call) calls

-- all that they were to the rule of shares
abbrev pub lane_events : Radio → List RadioCall → List LaneEvent
lane_events r [] = []
lane_events r (call ∷ calls) = lane_events_by r call ++ lane_events (radio_step r call) calls

-- ---- a network alone

-- its own calls: those that name it, and a turn for each time that the rule chose it, whatever came of that turn. A call
-- that names it and a receiver for a turn is one of them only where the rule chose it
abbrev pub own_calls : (place : ℕ) → Radio → List RadioCall → List NetworkCall
own_calls place r [] = []
own_calls place r (call ∷ calls) = own_call place (goes_to_network r call) ++ own_calls place (radio_step r call) calls

-- a network that stands alone, after its own calls: here are no other network, no air and no debt
abbrev pub queue_alone : Network → List NetworkCall → Network
queue_alone n own = network_after n own

abbrev pub answers_alone : Network → List NetworkCall → List (ℕ × Answer)
answers_alone n own = network_answers n own
