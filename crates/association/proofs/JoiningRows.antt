-- What the definitions say of some requests to associate, and of their answers.
use Rattle.std.proofs.Common.{◌≡◌, true, false, List, [], ◌∷◌, refl}
use Rattle.mac_frame.specs.Samples.{network, station}
use Rattle.elements.specs.Elements.{Pair}
use Rattle.association.specs.Samples.{other_station, frame, four_rates, ssid}
use Rattle.association.specs.Joining.{assoc_status, aid_field, association_response}
use Rattle.mac_frame.proofs.Rows.{Computes}

-- ---- statuses

-- the SSID lab and 1, 2, 5.5 and 11 Mb/s
abbrev named : List Pair
named = (0, ssid) ∷ (1, 0x02 ∷ 0x04 ∷ 0x0b ∷ 0x16 ∷ []) ∷ []

where_there_is_room : Computes (assoc_status ssid four_rates true) (
    ("the basic rates", named, 0)
    ∷ ("a basic rate is missing", (0, ssid) ∷ (1, 0x02 ∷ 0x0b ∷ 0x16 ∷ []) ∷ [], 18)
    ∷ ("it stands in element 50", (0, ssid) ∷ (1, 0x02 ∷ 0x0b ∷ 0x16 ∷ []) ∷ (50, 0x04 ∷ []) ∷ [], 0)
    ∷ ("the basic rates alone", (0, ssid) ∷ (1, 0x02 ∷ 0x04 ∷ []) ∷ [], 0)
    ∷ ("no SSID", [], 1)
    ∷ ("an empty SSID", (0, []) ∷ (1, four_rates) ∷ [], 1)
    ∷ ("another SSID", (0, 108 ∷ 97 ∷ []) ∷ (1, four_rates) ∷ [], 1)
    ∷ ("another SSID before it", (0, 108 ∷ []) ∷ named, 1)
    ∷ ("no rates", (0, ssid) ∷ [], 18)
    ∷ [])
where_there_is_room = refl

a_network_without_basic_rates_wants_none : assoc_status ssid (0x0b ∷ 0x16 ∷ []) true ((0, ssid) ∷ []) ≡ 0
a_network_without_basic_rates_wants_none = refl

where_there_is_none : Computes (assoc_status ssid four_rates false) (
    ("the basic rates", named, 17)
    ∷ ("the rates before the room", (0, ssid) ∷ (1, 0x02 ∷ []) ∷ [], 18)
    ∷ ("the SSID before the rates", (0, []) ∷ (1, 0x02 ∷ []) ∷ [], 1)
    ∷ [])
where_there_is_none = refl

-- ---- answers

a_station_is_associated :
    association_response station network 1 false 0 1 four_rates
    ≡ 0x10 ∷ 0x00 ∷ 0x00 ∷ 0x00
    ∷ 0x02 ∷ 0xaa ∷ 0x00 ∷ 0x00 ∷ 0x00 ∷ 0x01
    ∷ 0x02 ∷ 0x00 ∷ 0x00 ∷ 0x00 ∷ 0x00 ∷ 0x01
    ∷ 0x02 ∷ 0x00 ∷ 0x00 ∷ 0x00 ∷ 0x00 ∷ 0x01
    ∷ 0x10 ∷ 0x00
    ∷ 0x01 ∷ 0x00 ∷ 0x00 ∷ 0x00 ∷ 0x01 ∷ 0xc0
    ∷ 0x01 ∷ 0x04 ∷ 0x82 ∷ 0x84 ∷ 0x0b ∷ 0x16 ∷ []
a_station_is_associated = refl

a_station_is_associated_again :
    association_response station network 2 true 0 1 four_rates
    ≡ frame 0x30 station 0x20 0x00
    (0x01 ∷ 0x00 ∷ 0x00 ∷ 0x00 ∷ 0x01 ∷ 0xc0 ∷ 0x01 ∷ 0x04 ∷ 0x82 ∷ 0x84 ∷ 0x0b ∷ 0x16 ∷ [])
a_station_is_associated_again = refl

another_station_takes_the_place :
    association_response other_station network 4 false 0 1 four_rates
    ≡ frame 0x10 other_station 0x40 0x00
    (0x01 ∷ 0x00 ∷ 0x00 ∷ 0x00 ∷ 0x01 ∷ 0xc0 ∷ 0x01 ∷ 0x04 ∷ 0x82 ∷ 0x84 ∷ 0x0b ∷ 0x16 ∷ [])
another_station_takes_the_place = refl

a_refused_station_has_no_identifier :
    association_response station network 1 false 18 1 four_rates
    ≡ frame 0x10 station 0x10 0x00
    (0x01 ∷ 0x00 ∷ 0x12 ∷ 0x00 ∷ 0x00 ∷ 0x00 ∷ 0x01 ∷ 0x04 ∷ 0x82 ∷ 0x84 ∷ 0x0b ∷ 0x16 ∷ [])
a_refused_station_has_no_identifier = refl

a_full_network_says_17 :
    association_response other_station network 3 false 17 0 four_rates
    ≡ frame 0x10 other_station 0x30 0x00
    (0x01 ∷ 0x00 ∷ 0x11 ∷ 0x00 ∷ 0x00 ∷ 0x00 ∷ 0x01 ∷ 0x04 ∷ 0x82 ∷ 0x84 ∷ 0x0b ∷ 0x16 ∷ [])
a_full_network_says_17 = refl

a_ninth_rate_stands_in_element_50 :
    association_response station network 0 false 0 2007
    (0x82 ∷ 0x84 ∷ 0x8b ∷ 0x96 ∷ 0x0c ∷ 0x12 ∷ 0x18 ∷ 0x24 ∷ 0x30 ∷ [])
    ≡ frame 0x10 station 0x00 0x00 (0x01 ∷ 0x00 ∷ 0x00 ∷ 0x00 ∷ 0xd7 ∷ 0xc7
    ∷ 0x01 ∷ 0x08 ∷ 0x82 ∷ 0x84 ∷ 0x8b ∷ 0x96 ∷ 0x0c ∷ 0x12 ∷ 0x18 ∷ 0x24 ∷ 0x32 ∷ 0x01 ∷ 0x30 ∷ [])
a_ninth_rate_stands_in_element_50 = refl

number_0_is_the_two_high_bits_alone : aid_field 0 0 ≡ 0xc000
number_0_is_the_two_high_bits_alone = refl

a_refused_number_is_0 : aid_field 1 2007 ≡ 0
a_refused_number_is_0 = refl
