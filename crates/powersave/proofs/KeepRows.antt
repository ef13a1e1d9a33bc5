-- What the definitions say of some lists.
use Rattle.std.proofs.Common.{◌≡◌, [], ◌∷◌, length, map, filter, Some, None, refl, ℕ, List, Option}
use Rattle.std.specs.List.{slice_get}
use Rattle.powersave.specs.declared.unit.Whom.{Whom}
use Rattle.powersave.specs.declared.unit.Whom.TheVariants.{One, Group}
use Rattle.powersave.specs.Keep.{Entry, units_for, without_oldest, without_all, without_older, is_older, oldest_at, first_clock, room_beside}
use Rattle.mac_frame.specs.Address.{broadcast}
use Rattle.mac_frame.specs.Samples.{station}
use Rattle.powersave.specs.Queues.{merged, queue_with}
use Rattle.powersave.specs.Returns.{put_back}
use Rattle.powersave.proofs.Samples.{other_station, unit_to, for_station, for_other, for_group, three, at_clocks, arrived}
use Rattle.powersave.proofs.QueueSteps.{entry_of}
use Rattle.mac_frame.proofs.Rows.{Computes}

units_for_each : Computes (λ (x : Whom). units_for x three) (
    ("units for a station are in order of arrival", One station, unit_to station 1 ∷ unit_to station 3 ∷ [])
    ∷ ("the group has a part of its own", Group, unit_to broadcast 2 ∷ [])
    ∷ ("another station has none", One other_station, [])
    -- a station is not the group, whatever its address
    ∷ ("an address is not the group", One broadcast, [])
    ∷ [])
units_for_each = refl

the_second_of_a_station_is_the_third_of_all : slice_get (units_for (One station) three) 1 ≡ Some (unit_to station 3)
the_second_of_a_station_is_the_third_of_all = refl

there_is_no_third_of_a_station : slice_get (units_for (One station) three) 2 ≡ None
there_is_no_third_of_a_station = refl

the_oldest_of_the_group_may_stand_after_others : without_oldest Group three ≡ for_station 1 ∷ for_station 3 ∷ []
the_oldest_of_the_group_may_stand_after_others = refl

the_rest_stays_in_its_order : without_all Group (for_station 1 ∷ for_group 2 ∷ for_other 3 ∷ for_group 4 ∷ for_station 5 ∷ []) ≡ for_station 1 ∷ for_other 3 ∷ for_station 5 ∷ []
the_rest_stays_in_its_order = refl

-- ---- units that came before a clock

those_before_it_leave : without_older (One station) 6 at_clocks ≡ (One other_station, record (unit_to other_station 2) { at = 4 }) ∷ (Group, record (unit_to broadcast 3) { at = 5 }) ∷ (One station, record (unit_to station 4) { at = 6 }) ∷ []
those_before_it_leave = refl

one_that_came_at_it_stays : length (filter (is_older (One station) 6) at_clocks) ≡ 1
one_that_came_at_it_stays = refl

without_some : Computes (λ (is : List Entry). is) (
    ("the oldest leaves alone", without_oldest (One station) three, for_group 2 ∷ for_station 3 ∷ [])
    ∷ ("without a unit nothing leaves", without_oldest (One other_station) three, three)
    ∷ ("all of a station leave", without_all (One station) three, for_group 2 ∷ [])
    ∷ ("before clock 0 nothing came", without_older (One station) 0 at_clocks, at_clocks)
    ∷ [])
without_some = refl

-- ---- the oldest for each

oldest_clocks : Computes (λ (is : Option ℕ). is) (
    ("the first for a station is its oldest", first_clock (units_for (One station) at_clocks), Some 3)
    ∷ ("the group has its own", first_clock (units_for Group at_clocks), Some 5)
    ∷ ("one for whom none is kept has none", first_clock (units_for (One other_station) (for_station 1 ∷ [])), None)
    ∷ [])
oldest_clocks = refl

a_list_tells_it_of_each :
    oldest_at Group ((record { whom = One station; at = 3 }) ∷ (record { whom = Group; at = 5 }) ∷ []) ≡ Some 5
a_list_tells_it_of_each = refl

a_list_tells_none_of_others : oldest_at (One other_station) ((record { whom = One station; at = 3 }) ∷ []) ≡ None
a_list_tells_none_of_others = refl

-- ---- room

room : Computes (room_beside (One station)) (
    ("room for a station is given up", Some (One station), None)
    ∷ ("room for another stays", Some (One other_station), Some (One other_station))
    ∷ ("room for the group stays", Some Group, Some Group)
    ∷ [])
room = refl

-- ---- a run: the oldest of a station is taken out of the three, then all of it

the_second_of_the_station_is_its_first_then : units_for (One station) (without_oldest (One station) three) ≡ unit_to station 3 ∷ []
the_second_of_the_station_is_its_first_then = refl

the_groups_first_is_the_same_then : slice_get (units_for Group (without_oldest (One station) three)) 0 ≡ Some (unit_to broadcast 2)
the_groups_first_is_the_same_then = refl

one_is_left_in_the_end : length (without_all (One station) (without_oldest (One station) three)) ≡ 1
one_is_left_in_the_end = refl

-- ---- queues by the numbers of arrival

merged_queues : Computes (map entry_of) (
    ("two queues make one list", merged (One station) (arrived 0 (unit_to station 1) ∷ arrived 2 (unit_to station 3) ∷ []) (merged Group (arrived 1 (unit_to broadcast 2) ∷ []) []), three)
    ∷ ("in whatever order they stand", merged Group (arrived 1 (unit_to broadcast 2) ∷ []) (merged (One station) (arrived 0 (unit_to station 1) ∷ arrived 2 (unit_to station 3) ∷ []) []), three)
    ∷ ("an empty queue adds nothing", merged (One other_station) [] (merged Group (arrived 1 (unit_to broadcast 2) ∷ []) []), for_group 2 ∷ [])
    ∷ [])
merged_queues = refl

-- ---- a unit that comes back

units_back : Computes (λ (is : List Entry). is) (
    ("in front of all", put_back (One station) 0 (unit_to station 9) three, for_station 9 ∷ three)
    ∷ ("behind the first of its station", put_back (One station) 1 (unit_to station 9) three, for_station 1 ∷ for_station 9 ∷ for_group 2 ∷ for_station 3 ∷ [])
    ∷ ("last where fewer are told", put_back (One station) 7 (unit_to station 9) three, for_station 1 ∷ for_station 3 ∷ for_station 9 ∷ for_group 2 ∷ [])
    ∷ ("alone where none is kept", put_back (One other_station) 1 (unit_to other_station 9) three, for_other 9 ∷ three)
    ∷ [])
units_back = refl

-- the numbers go down from those of the units that were put
a_queue_takes_one_back : queue_with 7 1 (unit_to station 9) (arrived 10 (unit_to station 1) ∷ arrived 12 (unit_to station 3) ∷ []) ≡ arrived 7 (unit_to station 1) ∷ arrived 8 (unit_to station 9) ∷ arrived 12 (unit_to station 3) ∷ []
a_queue_takes_one_back = refl
