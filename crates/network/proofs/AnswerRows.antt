-- Requests of stations, and what a network makes of them.
use Rattle.std.proofs.Common.{◌≡◌, ℕ, true, false, List, [], ◌∷◌, ◌++◌, Ok, refl}
use Rattle.station_state.specs.declared.Standing.TheVariants as standings
use Rattle.elements.specs.Elements.{Pair}
use Rattle.association.specs.Request.{Request, Auth, Assoc, Disassoc, Deauth}
use Rattle.association.specs.Samples.{frame, other_station, four_rates, ssid}
use Rattle.aid_pool.specs.LeastFree.{least_free}
use Rattle.ap_config.specs.declared.setting.Setting.{Setting}
use Rattle.network.specs.Network.{Network, empty_network, answer, table_of}
use Rattle.station_state.specs.declared.state.StationState.TheVariants.{Authenticated, Associated}
use Rattle.ap_config.specs.Samples.{station, network, setting}
use Rattle.mac_frame.proofs.Rows.{Computes}

-- ---- requests

abbrev after_requests : Setting → Network → List Request → Network
after_requests s n [] = n
after_requests s n (r ∷ rs) = after_requests s (answer s (Ok r) n) rs

abbrev of : Setting → List Request → Network
of s rs = after_requests s empty_network rs

-- a request to authenticate
abbrev auth : List ℕ → Request
auth from = Auth from 0 1

-- the elements of a station that has all rates of the network
abbrev named : List Pair
named = (0, ssid) ∷ (1, 0x02 ∷ 0x04 ∷ 0x0b ∷ 0x16 ∷ []) ∷ []

abbrev lacking : List Pair
lacking = (0, ssid) ∷ (1, 0x01 ∷ 0x02 ∷ []) ∷ []

-- a request to associate
abbrev asks : List ℕ → Request
asks from = Assoc from false 10 named

-- room for one station
abbrev narrow : Setting
narrow = record setting { network = record network { max_stations = 1 } }

-- and no other is known
abbrev narrower : Setting
narrower = record setting { network = record network { max_stations = 1; max_known = 1 } }

-- ---- their answers

-- an authentication with this status, and a response to an association
abbrev authenticated_with : List ℕ → ℕ → ℕ → ℕ → List ℕ
authenticated_with to low high status = frame 0xb0 to low high (0x00 ∷ 0x00 ∷ 0x02 ∷ 0x00 ∷ status ∷ 0x00 ∷ [])

abbrev responded_with : List ℕ → ℕ → ℕ → ℕ → List ℕ → List ℕ
responded_with to low high status aid =
    frame 0x10 to low high ((0x01 ∷ 0x00 ∷ status ∷ 0x00 ∷ []) ++ aid ++ 0x01 ∷ 0x04 ∷ four_rates)

abbrev number_1 : List ℕ
number_1 = 0x01 ∷ 0xc0 ∷ []

abbrev no_number : List ℕ
no_number = 0x00 ∷ 0x00 ∷ []

-- ---- authentication

a_station_is_authenticated : of setting (auth station ∷ []) ≡ record empty_network { stations = (station, Authenticated) ∷ []; sequence = 1; air = authenticated_with station 0x00 0x00 0 ∷ [] }
a_station_is_authenticated = refl

a_third_step_is_refused : of setting (Auth station 0 3 ∷ []) ≡ record empty_network { sequence = 1; air = authenticated_with station 0x00 0x00 14 ∷ [] }
a_third_step_is_refused = refl

there_is_no_room_for_a_second_station : of narrower (auth station ∷ auth other_station ∷ []) ≡ record empty_network { stations = (station, Authenticated) ∷ []; sequence = 2; air = authenticated_with station 0x00 0x00 0 ∷ authenticated_with other_station 0x10 0x00 1 ∷ [] }
there_is_no_room_for_a_second_station = refl

a_known_station_needs_no_room : (of narrower (auth station ∷ auth station ∷ [])).air ≡ authenticated_with station 0x00 0x00 0 ∷ authenticated_with station 0x10 0x00 0 ∷ []
a_known_station_needs_no_room = refl

stations_after_authentication : Computes (λ (asked : Setting × List Request). (of asked.0 asked.1).stations) (
    ("shared key leaves a station authenticated", (setting, auth station ∷ Auth station 1 1 ∷ []), (station, Authenticated) ∷ [])
    ∷ ("a station that left makes room", (narrower, auth station ∷ auth other_station ∷ Deauth station ∷ auth other_station ∷ []), (other_station, Authenticated) ∷ [])
    ∷ ("a known station keeps its place", (setting, auth station ∷ auth other_station ∷ auth station ∷ []), (station, Authenticated) ∷ (other_station, Authenticated) ∷ [])
    ∷ ("a station that comes again goes last", (setting, auth station ∷ auth other_station ∷ Deauth station ∷ auth station ∷ []), (other_station, Authenticated) ∷ (station, Authenticated) ∷ [])
    ∷ [])
stations_after_authentication = refl

-- ---- association

a_station_is_associated : of setting (auth station ∷ asks station ∷ []) ≡ record empty_network { stations = (station, Associated 1 10 false) ∷ []; sequence = 2; air = authenticated_with station 0x00 0x00 0 ∷ responded_with station 0x10 0x00 0 number_1 ∷ [] }
unfolding least_free
a_station_is_associated = refl

its_row_is_shown : table_of (of setting (auth station ∷ asks station ∷ [])) ≡ record { addr = station; standing = standings.Associated; aid = 1; listen = 10; doze = false; kept = 0 } ∷ []
unfolding least_free
its_row_is_shown = refl

answered_frames : Computes (λ (asked : Setting × List Request). (of asked.0 asked.1).air) (
    ("a basic rate is missing", (setting, auth station ∷ Assoc station false 10 lacking ∷ []), authenticated_with station 0x00 0x00 0 ∷ responded_with station 0x10 0x00 18 no_number ∷ [])
    ∷ ("the rates come before the room", (narrow, auth station ∷ auth other_station ∷ asks other_station ∷ Assoc station false 10 lacking ∷ []), authenticated_with station 0x00 0x00 0 ∷ authenticated_with other_station 0x10 0x00 0 ∷ responded_with other_station 0x20 0x00 0 number_1 ∷ responded_with station 0x30 0x00 18 no_number ∷ [])
    ∷ [])
unfolding least_free
answered_frames = refl

associated_stations : Computes (λ (asked : Setting × List Request). (of asked.0 asked.1).stations) (
    ("there is no room to associate", (narrow, auth station ∷ auth other_station ∷ asks station ∷ asks other_station ∷ []), (station, Associated 1 10 false) ∷ (other_station, Authenticated) ∷ [])
    ∷ ("an identifier comes again", (narrow, auth station ∷ auth other_station ∷ asks station ∷ Disassoc station ∷ asks other_station ∷ []), (station, Authenticated) ∷ (other_station, Associated 1 10 false) ∷ [])
    ∷ ("who has a place needs no room", (narrow, auth station ∷ asks station ∷ auth other_station ∷ asks other_station ∷ asks station ∷ []), (station, Associated 1 10 false) ∷ (other_station, Authenticated) ∷ [])
    ∷ ("a reassociation keeps the identifier", (setting, auth station ∷ asks station ∷ Assoc station true 20 named ∷ []), (station, Associated 1 20 false) ∷ [])
    ∷ ("an authentication frees the identifier", (setting, auth station ∷ asks station ∷ auth station ∷ auth other_station ∷ asks other_station ∷ []), (station, Authenticated) ∷ (other_station, Associated 1 10 false) ∷ [])
    ∷ [])
unfolding least_free
associated_stations = refl

-- ---- leaving, and frames that are not taken

an_unknown_station_cannot_associate : of setting (asks station ∷ []) ≡ record empty_network { sequence = 1; air = frame 0xc0 station 0x00 0x00 (0x06 ∷ 0x00 ∷ []) ∷ [] }
an_unknown_station_cannot_associate = refl

an_unknown_station_cannot_disassociate : of setting (Disassoc station ∷ []) ≡ record empty_network { sequence = 1; air = frame 0xc0 station 0x00 0x00 (0x06 ∷ 0x00 ∷ []) ∷ [] }
an_unknown_station_cannot_disassociate = refl

a_disassociation_is_not_answered : of setting (auth station ∷ Disassoc station ∷ []) ≡ of setting (auth station ∷ [])
a_disassociation_is_not_answered = refl

an_unknown_station_may_leave : of setting (Deauth station ∷ []) ≡ empty_network
an_unknown_station_may_leave = refl
