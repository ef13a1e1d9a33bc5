-- What becomes of the networks of a radio, over any list of calls.
use Rattle.std.specs.Prelude.{ℕ, ◌≡◌, ◌+◌, ◌*◌, ◌≤◌, Bool, true, List, [], ◌∷◌, ◌++◌, map, Some, slice_get}
use Rattle.std.specs.Option.{option_map}
use Rattle.air_share.specs.declared.lane.Lane.{Lane}
use Rattle.air_share.specs.Lanes.{lane_at}
use Rattle.air_share.specs.LaneRuns.{lanes_after, air_of, IsWithin, IsPassedOver, HasNoDebts}
use Rattle.downlink.specs.Parts.{own_answers}
use Rattle.downlink.specs.Networks.{Network, new_network, has_next}
use Rattle.downlink.specs.Radios.{Radio, new_radio, with_network, RadioCall, Of, Next, NextOf, Pauses, Used}
use Rattle.downlink.specs.Radios.{radio_step, radio_after, radio_answers}
use Rattle.downlink.specs.Radios.{lane_events, own_calls, queue_alone, answers_alone}

-- ---- isolation

-- a network is, and is answered, what it would be alone by its own calls
abbrev pub IsAlone : Type 0
IsAlone = (r : Radio) (calls : List RadioCall) (place : ℕ) (n : Network) → slice_get r.networks place ≡ Some n
    → let own = own_calls place r calls in
    (slice_get (radio_after r calls).networks place ≡ Some (queue_alone n own))
    × (own_answers place (radio_answers r calls) ≡ answers_alone n own)

-- others reach a network by its own calls alone: with the same ones beside any others, on any other radio, it is and is
-- answered the same
abbrev pub IsUnmoved : Type 0
IsUnmoved = (r s : Radio) (calls others : List RadioCall) (place : ℕ) (n : Network)
    → slice_get r.networks place ≡ Some n → slice_get s.networks place ≡ Some n
    → own_calls place r calls ≡ own_calls place s others
    → (slice_get (radio_after r calls).networks place ≡ slice_get (radio_after s others).networks place)
    × (own_answers place (radio_answers r calls) ≡ own_answers place (radio_answers s others))

-- ---- what the rule of shares is told

abbrev pub waits_of : List Lane → List Bool
waits_of lanes = map (λ lane. lane.waits) lanes

-- each network waits for its turn exactly if a frame of it may go and it isn't paused
abbrev pub IsTold : Radio → Type 0
IsTold r = waits_of r.lanes ≡ map has_next r.networks

abbrev pub StaysTold : Type 0
StaysTold = (r : Radio) (calls : List RadioCall) → IsTold r → IsTold (radio_after r calls)

abbrev pub IsToldWithMore : Type 0
IsToldWithMore = (r : Radio) (weight : ℕ) (n : Network) → IsTold r → IsTold (with_network r weight n)

-- networks that are added one by one make a radio
abbrev pub IsMadeOneByOne : Type 0
IsMadeOneByOne = (settings : List (ℕ × List ℕ)) (weight : ℕ) (mosts : List ℕ)
    → with_network (new_radio settings) weight (new_network mosts) ≡ new_radio (settings ++ (weight, mosts) ∷ [])

-- ---- shares

-- what becomes of the lanes is what the rule makes of these events, so that its laws hold of them
abbrev pub IsByTheRule : Type 0
IsByTheRule = (r : Radio) (calls : List RadioCall) → (radio_after r calls).lanes ≡ lanes_after r.lanes (lane_events r calls)

-- the time units of air that the network at a place used
abbrev pub air_used : (place : ℕ) → Radio → List RadioCall → ℕ
air_used place r calls = air_of place r.lanes (lane_events r calls)

-- no turn of the network takes more air than a limit, with all that is told of it before its next
abbrev pub UsesWithin : (place limit : ℕ) → Radio → List RadioCall → Type 0
UsesWithin place limit r calls = IsWithin place limit r.lanes 0 (lane_events r calls)

-- whenever a turn is asked for, a frame of the network may go
abbrev pub HasNextAt : (place : ℕ) → Radio → RadioCall → Type 0
HasNextAt place r (Of other receiver call) = Unit {0}
HasNextAt place r (Next now) = option_map has_next (slice_get r.networks place) ≡ Some true
HasNextAt place r (NextOf other receiver now) = option_map has_next (slice_get r.networks place) ≡ Some true
HasNextAt place r (Pauses other is_paused) = Unit {0}
HasNextAt place r (Used other units) = Unit {0}

abbrev pub HasNextThroughout : (place : ℕ) → Radio → List RadioCall → Type 0
HasNextThroughout place r [] = Unit {0}
HasNextThroughout place r (call ∷ calls) = HasNextAt place r call × HasNextThroughout place (radio_step r call) calls

-- all frames that go are those of other networks
abbrev pub IsOvertaken : (place : ℕ) → Radio → List RadioCall → Type 0
IsOvertaken place r calls = IsPassedOver place r.lanes (lane_events r calls)

-- what a time unit of air costs a network
abbrev pub scale_at : Radio → (place : ℕ) → ℕ
scale_at r place = (lane_at r.lanes place).scale

-- while frames of b may go, c uses no more air than its share beside b, a turn of c, and its share beside a turn of b
abbrev pub IsFair : Type 0
IsFair = (r : Radio) (past calls : List RadioCall) (b c limit_b limit_c : ℕ) → HasNoDebts r.lanes → IsTold r
    → UsesWithin b limit_b r (past ++ calls) → UsesWithin c limit_c r (past ++ calls)
    → let now = radio_after r past in
    HasNextThroughout b now calls
    → scale_at r c * air_used c now calls ≤ scale_at r b * (air_used b now calls + limit_b) + scale_at r c * limit_c

-- while b waits for its turn, c uses no more air than a turn of c, and its share beside a turn of b
abbrev pub IsPrompt : Type 0
IsPrompt = (r : Radio) (past calls : List RadioCall) (b c limit_b limit_c : ℕ) → HasNoDebts r.lanes → IsTold r
    → UsesWithin b limit_b r (past ++ calls) → UsesWithin c limit_c r (past ++ calls)
    → let now = radio_after r past in
    HasNextThroughout b now calls → IsOvertaken b now calls
    → scale_at r c * air_used c now calls ≤ scale_at r b * limit_b + scale_at r c * limit_c
