-- What happens to the lanes of a radio, and how much air each network gets of it. The laws are the bounds that Goyal,
-- Vin and Cheng (1996) give for start-time fair queueing, on debts.
use Rattle.std.specs.Prelude.{ℕ, ◌≡◌, ◌+◌, ◌*◌, ◌≤◌, Bool, true, false, nat_eq, List, [], ◌∷◌, ◌++◌, slice_set}
use Rattle.std.specs.Prelude.{Option, Some, None, if◌then◌else◌}
use Rattle.air_share.specs.declared.lane.Lane.{Lane}
use Rattle.air_share.specs.Lanes.{lane_at, chosen, after_turn, after_telling}

pub data LaneEvent : Type 0 where
  -- from now on frames of the network at a place wait, or none
  Waits : (place : ℕ) (waits : Bool) → LaneEvent
  -- the lane whose turn it is, if there is one, is served with a frame of this cost
  Serve : (cost : ℕ) → LaneEvent
  -- the network at a place used more air than was reckoned
  Tell : (place more : ℕ) → LaneEvent

abbrev pub after_choice : List Lane → (cost : ℕ) → Option ℕ → List Lane
after_choice lanes cost None = lanes
after_choice lanes cost (Some place) = after_turn lanes place cost

unfoldable pub lane_step : List Lane → LaneEvent → List Lane
lane_step lanes (Waits place waits) = slice_set lanes place (record (lane_at lanes place) { waits = waits })
lane_step lanes (Serve cost) = after_choice lanes cost (chosen lanes)
lane_step lanes (Tell place more) = after_telling lanes place more

-- the lanes after a list of events
abbrev pub lanes_after : List Lane → List LaneEvent → List Lane
lanes_after lanes [] = lanes
lanes_after lanes (event ∷ events) = lanes_after (lane_step lanes event) events

-- ---- air

abbrev pub is_turn_of : ℕ → Option ℕ → Bool
is_turn_of place None = false
is_turn_of place (Some turn) = nat_eq turn place

-- the time units of air that the network at a place gets by an event
unfoldable pub air_by : (place : ℕ) → List Lane → LaneEvent → ℕ
air_by place lanes (Waits other waits) = 0
air_by place lanes (Serve cost) = if is_turn_of place (chosen lanes) then cost else 0
air_by place lanes (Tell other more) = if nat_eq other place then more else 0

abbrev pub air_of : (place : ℕ) → List Lane → List LaneEvent → ℕ
air_of place lanes [] = 0
air_of place lanes (event ∷ events) = air_by place lanes event + air_of place (lane_step lanes event) events

-- ---- a network that waits

-- where the event is a turn, something waits at the place
unfoldable pub WaitsForTurn : (place : ℕ) → List Lane → LaneEvent → Type 0
WaitsForTurn place lanes (Waits other waits) = Unit {0}
WaitsForTurn place lanes (Serve cost) = (lane_at lanes place).waits ≡ true
WaitsForTurn place lanes (Tell other more) = Unit {0}

-- whenever it is somebody's turn, something waits at the place
abbrev pub WaitsThroughout : (place : ℕ) → List Lane → List LaneEvent → Type 0
WaitsThroughout place lanes [] = Unit {0}
WaitsThroughout place lanes (event ∷ events) =
    WaitsForTurn place lanes event × WaitsThroughout place (lane_step lanes event) events

-- the event is no turn of the network at the place
unfoldable pub IsTurnOfOthers : (place : ℕ) → List Lane → LaneEvent → Type 0
IsTurnOfOthers place lanes (Waits other waits) = Unit {0}
IsTurnOfOthers place lanes (Serve cost) = is_turn_of place (chosen lanes) ≡ false
IsTurnOfOthers place lanes (Tell other more) = Unit {0}

-- all turns are those of others
abbrev pub IsPassedOver : (place : ℕ) → List Lane → List LaneEvent → Type 0
IsPassedOver place lanes [] = Unit {0}
IsPassedOver place lanes (event ∷ events) =
    IsTurnOfOthers place lanes event × IsPassedOver place (lane_step lanes event) events

-- ---- how long a turn is

-- the air of the network's latest turn, with all that is told of it before its next, after one event more
unfoldable pub turn_after : (place : ℕ) → List Lane → (turn : ℕ) → LaneEvent → ℕ
turn_after place lanes turn (Waits other waits) = turn
turn_after place lanes turn (Serve cost) = if is_turn_of place (chosen lanes) then cost else turn
turn_after place lanes turn (Tell other more) = if nat_eq other place then turn + more else turn

-- no turn of the network takes more than a limit, where its latest one has taken this much so far
abbrev pub IsWithin : (place limit : ℕ) → List Lane → (turn : ℕ) → List LaneEvent → Type 0
IsWithin place limit lanes turn [] = turn ≤ limit
IsWithin place limit lanes turn (event ∷ events) =
    (turn ≤ limit) × IsWithin place limit (lane_step lanes event) (turn_after place lanes turn event) events

-- as a radio begins
abbrev pub HasNoDebts : List Lane → Type 0
HasNoDebts lanes = (place : ℕ) → (lane_at lanes place).debt ≡ 0

-- ---- the laws

-- while something of b waits, what any c gets beyond its share beside b is no more than what it owes the more
abbrev pub IsExact : Type 0
IsExact = (lanes : List Lane) (events : List LaneEvent) (b c : ℕ) → WaitsThroughout b lanes events
    → (lane_at lanes c).scale * air_of c lanes events + (lane_at lanes c).debt + (lane_at (lanes_after lanes events) b).debt
    ≤ (lane_at lanes b).scale * air_of b lanes events + (lane_at (lanes_after lanes events) c).debt + (lane_at lanes b).debt

-- while something of b waits, any c gets no more than its share beside b, a turn of c, and its share beside a turn of b
abbrev pub IsBounded : Type 0
IsBounded = (lanes : List Lane) (past events : List LaneEvent) (b c limit_b limit_c : ℕ) → HasNoDebts lanes
    → IsWithin b limit_b lanes 0 (past ++ events) → IsWithin c limit_c lanes 0 (past ++ events)
    → WaitsThroughout b (lanes_after lanes past) events
    → (lane_at lanes c).scale * air_of c (lanes_after lanes past) events
    ≤ (lane_at lanes b).scale * (air_of b (lanes_after lanes past) events + limit_b) + (lane_at lanes c).scale * limit_c

-- while something of b waits for b's turn, any c gets no more than a turn of c, and its share beside a turn of b
abbrev pub IsSoon : Type 0
IsSoon = (lanes : List Lane) (past events : List LaneEvent) (b c limit_b limit_c : ℕ) → HasNoDebts lanes
    → IsWithin b limit_b lanes 0 (past ++ events) → IsWithin c limit_c lanes 0 (past ++ events)
    → WaitsThroughout b (lanes_after lanes past) events → IsPassedOver b (lanes_after lanes past) events
    → (lane_at lanes c).scale * air_of c (lanes_after lanes past) events
    ≤ (lane_at lanes b).scale * limit_b + (lane_at lanes c).scale * limit_c
