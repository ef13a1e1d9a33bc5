-- Start-time fair queueing (Goyal, Vin and Cheng, "Start-time Fair Queueing", 1996), written as debts. A flow's debt is
-- its start tag less the virtual time, not below 0: so there is neither a tag nor a time that grows without end. It is
-- no deficit round robin (Shreedhar and Varghese, 1996): there is no quantum, and no pointer that goes round.
use Rattle.std.specs.Prelude.{ℕ, zero, suc, ◌≡◌, ◌+◌, ◌-◌, ◌*◌, ◌<◌, ◌≤◌, Bool, true, false, not, ◌&&◌, ◌||◌, nat_le}
use Rattle.std.specs.Prelude.{List, [], ◌∷◌, map, slice_set, Option, Some, None, if◌then◌else◌}
use Rattle.std.specs.List.{list_all, slice_index_or}
use Rattle.std.specs.Option.{option_map}
use Rattle.air_share.specs.declared.lane.Lane.{Lane}

-- where there is no lane, nothing waits and nothing is owed
abbrev pub no_lane : Lane
no_lane = record { debt = 0; scale = 0; waits = false }

abbrev pub lane_at : List Lane → ℕ → Lane
lane_at lanes place = slice_index_or lanes place no_lane

-- ---- whose turn it is

-- it waits, and no lane that waits has less debt
abbrev pub is_least : List Lane → Lane → Bool
is_least lanes lane = lane.waits && list_all (λ other. not other.waits || nat_le lane.debt other.debt) lanes

-- the place of the first lane that passes a test
abbrev pub first_place : (Lane → Bool) → List Lane → Option ℕ
first_place test [] = None
first_place test (lane ∷ lanes) = if test lane then Some zero else option_map suc (first_place test lanes)

-- of those that wait the lane of least debt, of several the one of lowest place
unfoldable pub chosen : List Lane → Option ℕ
chosen lanes = first_place (is_least lanes) lanes

-- the same as a relation
pub record IsChoice (lanes : List Lane) (place : ℕ) : Type 0 where
  pub waits : (lane_at lanes place).waits ≡ true
  pub least : (other : ℕ) → (lane_at lanes other).waits ≡ true → (lane_at lanes place).debt ≤ (lane_at lanes other).debt
  pub first : (other : ℕ) → other < place → (lane_at lanes other).waits ≡ true
      → (lane_at lanes place).debt < (lane_at lanes other).debt

-- ---- what a turn costs

abbrev pub with_debt : ℕ → Lane → Lane
with_debt debt lane = record lane { debt = debt }

-- a debt less another one, not below 0
abbrev pub lowered : ℕ → Lane → Lane
lowered by lane = with_debt (lane.debt - by) lane

-- every debt less that of the lane at a place, whose own is then its scale times the cost of its frame
unfoldable pub after_turn : List Lane → (place cost : ℕ) → List Lane
after_turn lanes place cost =
    let lane = lane_at lanes place in
    slice_set (map (lowered lane.debt) lanes) place (with_debt (lane.scale * cost) lane)

-- a debt with what was used beyond the cost
unfoldable pub after_telling : List Lane → (place more : ℕ) → List Lane
after_telling lanes place more =
    let lane = lane_at lanes place in slice_set lanes place (with_debt (lane.debt + lane.scale * more) lane)
