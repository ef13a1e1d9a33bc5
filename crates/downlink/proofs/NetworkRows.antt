-- What the definitions say of some calls of a network.
use Rattle.std.proofs.Common.{◌≡◌, ℕ, true, false, List, [], ◌∷◌, map, refl}
use Rattle.downlink.specs.declared.answer.Answer.{Answer}
use Rattle.downlink.specs.declared.answer.Fate.{Fate}
use Rattle.downlink.specs.declared.answer.Fate.TheVariants.{Goes, GoesAgain, WaitsAgain, HandedBack, Late, Crowded}
use Rattle.downlink.specs.declared.answer.Fate.TheVariants.{GivenUp}
use Rattle.downlink.specs.Calls.{Comes, Turn, Told, Returns, GivesUp, Joins, Dozes}
use Rattle.downlink.specs.Networks.{new_network, NetworkCall, To, TurnOfOne, Pauses, network_answers}

-- each answer as its receiver, its ticket and its fate
told : List (ℕ × Answer) → List (ℕ × ℕ × Fate)
told given = map (λ a. (a.0, a.1.frame.ticket, a.1.fate)) given

-- of two receivers, for each of which two frames wait at most
said : List NetworkCall → List (ℕ × ℕ × Fate)
said calls = told (network_answers (new_network (2 ∷ 2 ∷ [])) calls)

-- a frame comes at time 0, and is worth sending until 50
frame : (receiver ticket : ℕ) → NetworkCall
frame receiver ticket = To receiver (Comes ticket false 50 0)

unit : (receiver ticket : ℕ) → NetworkCall
unit receiver ticket = To receiver (Comes ticket true 50 0)

receivers_take_turns : said (frame 0 1 ∷ frame 0 2 ∷ frame 1 3 ∷ TurnOfOne 1 ∷ TurnOfOne 1 ∷ TurnOfOne 1 ∷ TurnOfOne 1 ∷ [])
    ≡ (0, 1, Goes) ∷ (1, 3, Goes) ∷ (0, 2, Goes) ∷ []
unfolding said told frame
receivers_take_turns = refl

a_receiver_whose_frame_is_late_keeps_its_turn : said (To 0 (Comes 1 false 5 0) ∷ frame 0 2 ∷ frame 1 3 ∷ TurnOfOne 6 ∷ TurnOfOne 6 ∷ TurnOfOne 6 ∷ [])
    ≡ (0, 1, Late) ∷ (0, 2, Goes) ∷ (1, 3, Goes) ∷ []
unfolding said told frame
a_receiver_whose_frame_is_late_keeps_its_turn = refl

too_many_for_one_receiver_drop_none_of_another : said (frame 1 9 ∷ frame 0 1 ∷ frame 0 2 ∷ frame 0 3 ∷ TurnOfOne 1 ∷ TurnOfOne 1 ∷ [])
    ≡ (0, 1, Crowded) ∷ (0, 2, Goes) ∷ (1, 9, Goes) ∷ []
unfolding said told frame
too_many_for_one_receiver_drop_none_of_another = refl

a_station_that_dozes_has_no_turn : said (To 0 Joins ∷ To 1 Joins ∷ unit 0 1 ∷ unit 1 2 ∷ To 0 Dozes ∷ TurnOfOne 1 ∷ TurnOfOne 1 ∷ To 0 Returns ∷ [])
    ≡ (1, 2, Goes) ∷ (0, 1, HandedBack) ∷ []
unfolding said told unit
a_station_that_dozes_has_no_turn = refl

a_lost_unit_goes_once_more_in_a_later_turn : said (To 0 Joins ∷ unit 0 1 ∷ frame 1 2 ∷ TurnOfOne 1 ∷ To 0 (Told 1 false) ∷ TurnOfOne 1 ∷ TurnOfOne 1 ∷ [])
    ≡ (0, 1, Goes) ∷ (0, 1, WaitsAgain) ∷ (1, 2, Goes) ∷ (0, 1, GoesAgain) ∷ []
unfolding said told frame unit
a_lost_unit_goes_once_more_in_a_later_turn = refl

nothing_comes_for_a_receiver_that_is_not_there : said (frame 2 1 ∷ TurnOfOne 1 ∷ [])
    ≡ []
unfolding said told frame
nothing_comes_for_a_receiver_that_is_not_there = refl

a_turn_of_a_named_receiver_leaves_the_next_turn_where_it_was : said (frame 0 1 ∷ frame 0 2 ∷ frame 1 3 ∷ To 0 (Turn 1) ∷ TurnOfOne 1 ∷ TurnOfOne 1 ∷ [])
    ≡ (0, 1, Goes) ∷ (0, 2, Goes) ∷ (1, 3, Goes) ∷ []
unfolding said told frame
a_turn_of_a_named_receiver_leaves_the_next_turn_where_it_was = refl

a_paused_network_has_no_turn : said (frame 0 1 ∷ To 1 (Comes 2 false 5 0) ∷ Pauses true ∷ TurnOfOne 1 ∷ Pauses false ∷ TurnOfOne 6 ∷ TurnOfOne 6 ∷ [])
    ≡ (0, 1, Goes) ∷ (1, 2, Late) ∷ []
unfolding said told frame
a_paused_network_has_no_turn = refl

one_that_is_given_up_leaves_the_turn_to_the_next : said (frame 0 1 ∷ frame 0 2 ∷ frame 1 3 ∷ To 0 GivesUp ∷ TurnOfOne 1 ∷ TurnOfOne 1 ∷ [])
    ≡ (0, 1, GivenUp) ∷ (0, 2, Goes) ∷ (1, 3, Goes) ∷ []
unfolding said told frame
one_that_is_given_up_leaves_the_turn_to_the_next = refl
