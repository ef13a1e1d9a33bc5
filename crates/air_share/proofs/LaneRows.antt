-- What the definitions say of some lanes.
use Rattle.std.proofs.Common.{◌≡◌, ℕ, Bool, true, false, List, [], ◌∷◌, Some, None, refl}
use Rattle.air_share.specs.declared.lane.Lane.{Lane}
use Rattle.air_share.specs.Lanes.{chosen, after_turn, after_telling}
use Rattle.air_share.specs.LaneRuns.{LaneEvent, Waits, Serve, Tell, lane_step, lanes_after, air_by, air_of}
use Rattle.air_share.proofs.Rows.{Computes}

lane : (scale debt : ℕ) → Bool → Lane
lane scale debt waits = record { debt = debt; scale = scale; waits = waits }

-- ---- whose turn it is

turns : Computes chosen (
    ("the least debt goes", lane 1 30 true ∷ lane 1 10 true ∷ lane 1 20 true ∷ [], Some 1)
    ∷ ("of equals the lowest place goes", lane 1 30 true ∷ lane 1 10 true ∷ lane 2 10 true ∷ [], Some 1)
    ∷ ("who does not wait is passed over", lane 1 0 false ∷ lane 1 40 true ∷ lane 1 0 false ∷ [], Some 1)
    ∷ ("where none waits nobody goes", lane 1 0 false ∷ lane 1 40 false ∷ [], None)
    ∷ ("without lanes nobody goes", [], None)
    ∷ [])
unfolding chosen lane
turns = refl

-- ---- what a turn costs

what_a_turn_costs : Computes (λ x. after_turn x 1 7) (
    ("all are forgiven what it owed", lane 3 30 true ∷ lane 2 10 true ∷ [], lane 3 20 true ∷ lane 2 14 true ∷ [])
    ∷ ("no debt falls below 0", lane 3 4 false ∷ lane 2 10 true ∷ [], lane 3 0 false ∷ lane 2 14 true ∷ [])
    ∷ [])
unfolding after_turn lane
what_a_turn_costs = refl

what_is_told : Computes (λ (of : List Lane × ℕ × ℕ). after_telling of.0 of.1 of.2) (
    ("what is told is added", (lane 3 4 false ∷ lane 2 10 true ∷ [], 0, 5), lane 3 19 false ∷ lane 2 10 true ∷ [])
    ∷ ("what is told of no lane changes nothing", (lane 3 4 false ∷ [], 1, 5), lane 3 4 false ∷ [])
    ∷ [])
unfolding after_telling lane
what_is_told = refl

-- ---- runs

-- two lanes of weights 1 and 2, that both wait
one_and_two : List Lane
unfolding lane
one_and_two = lane 2 0 true ∷ lane 1 0 true ∷ []

six_turns : List LaneEvent
six_turns = Serve 100 ∷ Serve 100 ∷ Serve 100 ∷ Serve 100 ∷ Serve 100 ∷ Serve 100 ∷ []

-- the first lane waits for nothing during three turns of the second, and then waits
idle_and_then_both : List LaneEvent
idle_and_then_both =
    Waits 0 false ∷ Serve 100 ∷ Serve 100 ∷ Serve 100 ∷ Waits 0 true ∷ Serve 100 ∷ Serve 100 ∷ Serve 100 ∷ Serve 100 ∷ []

equals : List Lane
unfolding lane
equals = lane 1 0 true ∷ lane 1 0 true ∷ []

-- it was told that a turn of the first took five times as long
a_long_turn : List LaneEvent
a_long_turn = Serve 100 ∷ Tell 0 400 ∷ Serve 100 ∷ Serve 100 ∷ Serve 100 ∷ Serve 100 ∷ Serve 100 ∷ []

air : Computes (λ (of : ℕ × List Lane × List LaneEvent). air_of of.0 of.1 of.2) (
    ("weight 1 gets a third", (0, one_and_two, six_turns), 200)
    ∷ ("weight 2 gets two thirds", (1, one_and_two, six_turns), 400)
    -- the other owes its last turn, and none of those before
    ∷ ("idle time is not made up for", (0, equals, idle_and_then_both), 300)
    ∷ ("what is told is paid for", (1, equals, a_long_turn), 500)
    ∷ [])
unfolding air_by lane_step chosen after_turn one_and_two six_turns lane equals idle_and_then_both after_telling a_long_turn
air = refl

-- ---- the bound is met

-- the second had a turn while the first had nothing
the_second_alone : List LaneEvent
the_second_alone = Waits 0 false ∷ Serve 100 ∷ Waits 0 true ∷ []

two_turns : List LaneEvent
two_turns = Serve 100 ∷ Serve 100 ∷ []

-- then the first gets two turns while the second waits, a turn of each beyond what the second gets
a_turn_of_each : air_of 0 (lanes_after equals the_second_alone) two_turns ≡ 200
unfolding air_by lane_step chosen after_turn equals the_second_alone two_turns lane
a_turn_of_each = refl

the_second_gets_none_of_them : air_of 1 (lanes_after equals the_second_alone) two_turns ≡ 0
unfolding air_by lane_step chosen after_turn equals the_second_alone two_turns lane
the_second_gets_none_of_them = refl
