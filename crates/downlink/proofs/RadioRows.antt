-- What the definitions say of some calls of a radio.
use Rattle.std.proofs.Common.{◌≡◌, ℕ, true, false, List, [], ◌∷◌, map, refl}
use Rattle.air_share.specs.Lanes.{chosen, after_turn, after_telling}
use Rattle.air_share.specs.LaneRuns.{lane_step}
use Rattle.downlink.specs.declared.answer.Answer.{Answer}
use Rattle.downlink.specs.declared.answer.Fate.{Fate}
use Rattle.downlink.specs.declared.answer.Fate.TheVariants.{Goes, Late, HandedBack, GivenUp}
use Rattle.downlink.specs.Calls.{Comes, Turn, Returns, GivesUp, Joins, Dozes}
use Rattle.downlink.specs.Networks.{To, TurnOfOne, Pauses as NetworkPauses}
use Rattle.downlink.specs.Radios.{Radio, new_radio, RadioCall, Of, Next, NextOf, Pauses, Used, radio_answers, own_calls}

-- each answer as its network, its receiver, its ticket and its fate
told : List (ℕ × (ℕ × Answer)) → List (ℕ × ℕ × ℕ × Fate)
told given = map (λ a. (a.0, a.1.0, a.1.1.frame.ticket, a.1.1.fate)) given

-- a network of weight 1 with one receiver, and one of weight 2 with two
two : Radio
two = new_radio ((1, 8 ∷ []) ∷ (2, 8 ∷ 8 ∷ []) ∷ [])

said : List RadioCall → List (ℕ × ℕ × ℕ × Fate)
said calls = told (radio_answers two calls)

-- a frame comes at time 0, and is worth sending until 50
frame : (place receiver ticket : ℕ) → RadioCall
frame place receiver ticket = Of place receiver (Comes ticket false 50 0)

the_network_that_owes_least_goes_next : said (frame 0 0 1 ∷ frame 0 0 2 ∷ frame 1 0 3 ∷ frame 1 1 4 ∷ frame 1 0 5 ∷ Next 1 ∷ Used 0 100
    ∷ Next 1 ∷ Used 1 100 ∷ Next 1 ∷ Used 1 100 ∷ Next 1 ∷ Next 1 ∷ [])
    ≡ (0, 0, 1, Goes) ∷ (1, 0, 3, Goes) ∷ (1, 1, 4, Goes) ∷ (0, 0, 2, Goes) ∷ (1, 0, 5, Goes) ∷ []
unfolding said told two frame chosen lane_step after_turn after_telling
the_network_that_owes_least_goes_next = refl

a_turn_with_a_late_frame_costs_nothing : said (Of 0 0 (Comes 1 false 5 0) ∷ frame 0 0 2 ∷ frame 1 0 3 ∷ Next 6 ∷ Next 6 ∷ Next 6 ∷ Next 6 ∷ [])
    ≡ (0, 0, 1, Late) ∷ (0, 0, 2, Goes) ∷ (1, 0, 3, Goes) ∷ []
unfolding said told two frame chosen lane_step after_turn after_telling
a_turn_with_a_late_frame_costs_nothing = refl

a_station_that_dozes_stops_its_network_alone : said (Of 0 0 Joins ∷ Of 1 0 Joins ∷ Of 0 0 (Comes 1 true 50 0) ∷ Of 1 0 (Comes 2 true 50 0)
    ∷ Of 0 0 Dozes ∷ Next 1 ∷ Next 1 ∷ Of 0 0 Returns ∷ [])
    ≡ (1, 0, 2, Goes) ∷ (0, 0, 1, HandedBack) ∷ []
unfolding said told two chosen lane_step after_turn after_telling
a_station_that_dozes_stops_its_network_alone = refl

own_calls_are_those_that_name_a_network_and_its_turns : own_calls 1 two (frame 0 0 1 ∷ frame 1 1 2 ∷ Next 3 ∷ Used 0 9 ∷ Next 4 ∷ Next 5 ∷ [])
    ≡ To 1 (Comes 2 false 50 0) ∷ TurnOfOne 4 ∷ []
unfolding two frame chosen lane_step after_turn after_telling
own_calls_are_those_that_name_a_network_and_its_turns = refl

a_turn_counts_where_nothing_went : own_calls 0 two (Of 0 0 (Comes 1 false 5 0) ∷ Next 6 ∷ Next 7 ∷ [])
    ≡ To 0 (Comes 1 false 5 0) ∷ TurnOfOne 6 ∷ []
unfolding two chosen lane_step after_turn after_telling
a_turn_counts_where_nothing_went = refl

a_caller_chooses_a_receiver_of_the_network_whose_turn_it_is : said (frame 0 0 1 ∷ frame 1 0 2 ∷ frame 1 1 3 ∷ NextOf 1 1 1 ∷ NextOf 0 0 1 ∷ Used 0 100
    ∷ NextOf 0 0 1 ∷ NextOf 1 1 1 ∷ Used 1 100 ∷ Next 1 ∷ [])
    ≡ (0, 0, 1, Goes) ∷ (1, 1, 3, Goes) ∷ (1, 0, 2, Goes) ∷ []
unfolding said told two frame chosen lane_step after_turn after_telling
a_caller_chooses_a_receiver_of_the_network_whose_turn_it_is = refl

a_receiver_with_nothing_to_send_keeps_the_turn_of_its_network : said (frame 1 0 1 ∷ NextOf 1 1 1 ∷ NextOf 1 2 1 ∷ NextOf 1 0 2 ∷ [])
    ≡ (1, 0, 1, Goes) ∷ []
unfolding said told two frame chosen lane_step after_turn after_telling
a_receiver_with_nothing_to_send_keeps_the_turn_of_its_network = refl

a_paused_network_leaves_its_turn_to_others : said (frame 0 0 1 ∷ frame 1 0 2 ∷ Pauses 0 true ∷ NextOf 0 0 1 ∷ Next 1 ∷ Next 1 ∷ Pauses 0 false ∷ Next 1 ∷ [])
    ≡ (1, 0, 2, Goes) ∷ (0, 0, 1, Goes) ∷ []
unfolding said told two frame chosen lane_step after_turn after_telling
a_paused_network_leaves_its_turn_to_others = refl

a_network_whose_only_frame_is_given_up_has_no_turn : said (frame 0 0 1 ∷ Of 0 0 GivesUp ∷ frame 1 0 2 ∷ Next 1 ∷ [])
    ≡ (0, 0, 1, GivenUp) ∷ (1, 0, 2, Goes) ∷ []
unfolding said told two frame chosen lane_step after_turn after_telling
a_network_whose_only_frame_is_given_up_has_no_turn = refl

a_turn_of_a_named_receiver_is_its_networks_own_call_where_the_rule_chose_that : own_calls 1 two (frame 1 1 2 ∷ frame 0 0 1 ∷ NextOf 1 1 3 ∷ Next 4
    ∷ NextOf 1 1 5 ∷ Pauses 1 true ∷ Pauses 0 true ∷ [])
    ≡ To 1 (Comes 2 false 50 0) ∷ To 1 (Turn 5) ∷ NetworkPauses true ∷ []
unfolding two frame chosen lane_step after_turn after_telling
a_turn_of_a_named_receiver_is_its_networks_own_call_where_the_rule_chose_that = refl
