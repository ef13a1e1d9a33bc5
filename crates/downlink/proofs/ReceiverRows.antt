-- What the definitions say of some calls.
use Rattle.std.proofs.Common.{◌≡◌, ℕ, true, false, List, [], ◌∷◌, map, refl}
use Rattle.downlink.specs.declared.answer.Answer.{Answer}
use Rattle.downlink.specs.declared.answer.Fate.{Fate}
use Rattle.downlink.specs.declared.answer.Fate.TheVariants.{Goes, GoesAgain, Acknowledged, WaitsAgain, Lost, HandedBack}
use Rattle.downlink.specs.declared.answer.Fate.TheVariants.{Late, Crowded, Left, GivenUp}
use Rattle.downlink.specs.Receiver.{new_queue}
use Rattle.downlink.specs.Calls.{Call, Comes, Turn, Told, Returns, GivesUp, Joins, Leaves, Dozes, Settles, Wakes, Polls}
use Rattle.downlink.specs.Calls.{answers}

-- each answer as its ticket and its fate
told : List Answer → List (ℕ × Fate)
told given = map (λ a. (a.frame.ticket, a.fate)) given

-- two frames wait for each receiver at most
said : List Call → List (ℕ × Fate)
said calls = told (answers (new_queue 2) calls)

-- a unit comes at time 0, and is worth sending until 50
unit : (ticket : ℕ) → Call
unit ticket = Comes ticket true 50 0

frames_go_in_the_order_in_which_they_came : said (Joins ∷ unit 1 ∷ unit 2 ∷ Turn 1 ∷ Turn 2 ∷ Turn 3 ∷ [])
    ≡ (1, Goes) ∷ (2, Goes) ∷ []
unfolding said told unit
frames_go_in_the_order_in_which_they_came = refl

one_that_waited_until_its_end_goes : said (Joins ∷ unit 1 ∷ Turn 50 ∷ [])
    ≡ (1, Goes) ∷ []
unfolding said told unit
one_that_waited_until_its_end_goes = refl

one_that_waited_longer_is_dropped : said (Joins ∷ unit 1 ∷ unit 2 ∷ Turn 51 ∷ [])
    ≡ (1, Late) ∷ []
unfolding said told unit
one_that_waited_longer_is_dropped = refl

where_too_many_wait_the_oldest_is_dropped : said (Joins ∷ unit 1 ∷ unit 2 ∷ unit 3 ∷ Turn 1 ∷ [])
    ≡ (1, Crowded) ∷ (2, Goes) ∷ []
unfolding said told unit
where_too_many_wait_the_oldest_is_dropped = refl

a_lost_unit_goes_once_more_before_the_others : said (Joins ∷ unit 1 ∷ unit 2 ∷ Turn 1 ∷ Told 1 false ∷ Turn 2 ∷ Turn 3 ∷ [])
    ≡ (1, Goes) ∷ (1, WaitsAgain) ∷ (1, GoesAgain) ∷ (2, Goes) ∷ []
unfolding said told unit
a_lost_unit_goes_once_more_before_the_others = refl

it_goes_no_third_time : said (Joins ∷ unit 1 ∷ Turn 1 ∷ Told 1 false ∷ Turn 2 ∷ Told 1 false ∷ Turn 3 ∷ [])
    ≡ (1, Goes) ∷ (1, WaitsAgain) ∷ (1, GoesAgain) ∷ (1, Lost) ∷ []
unfolding said told unit
it_goes_no_third_time = refl

nor_a_second_time_where_another_went_since : said (Joins ∷ unit 1 ∷ unit 2 ∷ Turn 1 ∷ Turn 2 ∷ Told 1 false ∷ Turn 3 ∷ [])
    ≡ (1, Goes) ∷ (2, Goes) ∷ (1, Lost) ∷ []
unfolding said told unit
nor_a_second_time_where_another_went_since = refl

a_lost_management_frame_does_not_go_again : said (Joins ∷ Comes 1 false 50 0 ∷ Turn 1 ∷ Told 1 false ∷ [])
    ≡ (1, Goes) ∷ (1, Lost) ∷ []
unfolding said told unit
a_lost_management_frame_does_not_go_again = refl

an_acknowledged_one_is_told_once : said (Joins ∷ unit 1 ∷ Turn 1 ∷ Told 1 true ∷ Told 1 true ∷ [])
    ≡ (1, Goes) ∷ (1, Acknowledged) ∷ []
unfolding said told unit
an_acknowledged_one_is_told_once = refl

units_of_a_station_that_dozes_go_back_and_management_frames_go : said (Joins ∷ unit 1 ∷ Comes 2 false 50 0 ∷ Dozes ∷ Turn 1 ∷ unit 3 ∷ Turn 1 ∷ Settles ∷ Returns ∷ Returns ∷ Returns ∷ [])
    ≡ (2, Goes) ∷ (1, HandedBack) ∷ (3, HandedBack) ∷ []
unfolding said told unit
units_of_a_station_that_dozes_go_back_and_management_frames_go = refl

a_poll_lets_one_unit_go : said (Joins ∷ Dozes ∷ Settles ∷ Polls 9 ∷ unit 1 ∷ unit 2 ∷ Turn 1 ∷ Turn 2 ∷ Returns ∷ [])
    ≡ (1, Goes) ∷ (2, HandedBack) ∷ []
unfolding said told unit
a_poll_lets_one_unit_go = refl

a_poll_before_all_is_answered_lets_none_go : said (Joins ∷ Dozes ∷ Polls 9 ∷ unit 1 ∷ Settles ∷ Turn 1 ∷ Returns ∷ [])
    ≡ (1, HandedBack) ∷ []
unfolding said told unit
a_poll_before_all_is_answered_lets_none_go = refl

a_poll_is_answered_in_its_time : said (Joins ∷ Dozes ∷ Settles ∷ Polls 9 ∷ Comes 1 true 60 10 ∷ Turn 10 ∷ Returns ∷ [])
    ≡ (1, HandedBack) ∷ []
unfolding said told unit
a_poll_is_answered_in_its_time = refl

a_lost_answer_to_a_poll_goes_once_more_and_then_back : said (Joins ∷ Dozes ∷ Settles ∷ Polls 9 ∷ unit 1 ∷ Turn 1 ∷ Told 1 false ∷ Turn 2 ∷ Told 1 false ∷ [])
    ≡ (1, Goes) ∷ (1, WaitsAgain) ∷ (1, GoesAgain) ∷ (1, HandedBack) ∷ []
unfolding said told unit
a_lost_answer_to_a_poll_goes_once_more_and_then_back = refl

a_poll_is_ignored_while_the_answer_waits : said (Joins ∷ Dozes ∷ Settles ∷ Polls 9 ∷ unit 1 ∷ Polls 9 ∷ unit 2 ∷ Turn 1 ∷ Turn 2 ∷ Returns ∷ [])
    ≡ (1, Goes) ∷ (2, HandedBack) ∷ []
unfolding said told unit
a_poll_is_ignored_while_the_answer_waits = refl

a_poll_is_ignored_while_the_answer_is_out : said (Joins ∷ Dozes ∷ Settles ∷ Polls 9 ∷ unit 1 ∷ Turn 1 ∷ Polls 9 ∷ Told 1 true ∷ unit 2 ∷ Turn 2 ∷ [])
    ≡ (1, Goes) ∷ (1, Acknowledged) ∷ []
unfolding said told unit
a_poll_is_ignored_while_the_answer_is_out = refl

a_poll_is_ignored_while_the_answer_waits_to_go_once_more : said (Joins ∷ Dozes ∷ Settles ∷ Polls 9 ∷ unit 1 ∷ Turn 1 ∷ Told 1 false ∷ Polls 9 ∷ unit 2 ∷ Turn 2 ∷ Turn 3 ∷ [])
    ≡ (1, Goes) ∷ (1, WaitsAgain) ∷ (1, GoesAgain) ∷ []
unfolding said told unit
a_poll_is_ignored_while_the_answer_waits_to_go_once_more = refl

a_poll_after_the_answer_succeeded_is_answered : said (Joins ∷ Dozes ∷ Settles ∷ Polls 9 ∷ unit 1 ∷ Turn 1 ∷ Told 1 true ∷ Polls 9 ∷ unit 2 ∷ Turn 2 ∷ [])
    ≡ (1, Goes) ∷ (1, Acknowledged) ∷ (2, Goes) ∷ []
unfolding said told unit
a_poll_after_the_answer_succeeded_is_answered = refl

a_poll_is_ignored_while_a_unit_is_out_that_went_before_the_doze : said (Joins ∷ unit 1 ∷ Turn 1 ∷ Dozes ∷ Settles ∷ Polls 9 ∷ unit 2 ∷ Turn 2 ∷ [])
    ≡ (1, Goes) ∷ []
unfolding said told unit
a_poll_is_ignored_while_a_unit_is_out_that_went_before_the_doze = refl

what_the_radio_had_as_the_station_dozed_goes_back : said (Joins ∷ unit 1 ∷ Turn 1 ∷ Dozes ∷ Told 1 false ∷ [])
    ≡ (1, Goes) ∷ (1, HandedBack) ∷ []
unfolding said told unit
what_the_radio_had_as_the_station_dozed_goes_back = refl

after_it_woke_a_poll_lets_none_go_in_the_next_doze : said (Joins ∷ Dozes ∷ Settles ∷ Polls 9 ∷ Wakes ∷ Dozes ∷ Settles ∷ unit 1 ∷ Turn 1 ∷ [])
    ≡ []
unfolding said told unit
after_it_woke_a_poll_lets_none_go_in_the_next_doze = refl

units_of_a_station_that_left_are_dropped : said (Joins ∷ unit 1 ∷ Leaves ∷ unit 2 ∷ Turn 1 ∷ Returns ∷ Returns ∷ [])
    ≡ (1, Left) ∷ (2, Left) ∷ []
unfolding said told unit
units_of_a_station_that_left_are_dropped = refl

what_the_radio_had_then_goes_no_second_time : said (Joins ∷ unit 1 ∷ Turn 1 ∷ Leaves ∷ Joins ∷ Told 1 false ∷ Turn 2 ∷ [])
    ≡ (1, Goes) ∷ (1, Lost) ∷ []
unfolding said told unit
what_the_radio_had_then_goes_no_second_time = refl

one_that_is_given_up_is_dropped_and_the_next_one_goes : said (Joins ∷ unit 1 ∷ unit 2 ∷ GivesUp ∷ Turn 1 ∷ GivesUp ∷ [])
    ≡ (1, GivenUp) ∷ (2, Goes) ∷ []
unfolding said told unit
one_that_is_given_up_is_dropped_and_the_next_one_goes = refl

one_that_waits_to_go_once_more_is_given_up_first : said (Joins ∷ unit 1 ∷ unit 2 ∷ Turn 1 ∷ Told 1 false ∷ GivesUp ∷ Turn 2 ∷ [])
    ≡ (1, Goes) ∷ (1, WaitsAgain) ∷ (1, GivenUp) ∷ (2, Goes) ∷ []
unfolding said told unit
one_that_waits_to_go_once_more_is_given_up_first = refl

an_answer_to_a_poll_that_is_given_up_goes_back : said (Joins ∷ Dozes ∷ Settles ∷ Polls 9 ∷ unit 1 ∷ Comes 2 false 50 0 ∷ GivesUp ∷ GivesUp ∷ [])
    ≡ (1, HandedBack) ∷ (2, GivenUp) ∷ []
unfolding said told unit
an_answer_to_a_poll_that_is_given_up_goes_back = refl

what_goes_back_is_not_given_up : said (Joins ∷ unit 1 ∷ Dozes ∷ GivesUp ∷ Returns ∷ [])
    ≡ (1, HandedBack) ∷ []
unfolding said told unit
what_goes_back_is_not_given_up = refl
