-- Strings of octets on which the function that reads requests is computed.
use Rattle.std.proofs.Common.{◌≡◌, ℕ, true, false, List, [], ◌∷◌, ◌++◌, take, map, None, Result, Ok, Err, refl}
use Rattle.std.specs.Prelude.{replicate}
use Rattle.elements.specs.Elements.{Pair, elements_of, elements_within}
use Rattle.mac_frame.specs.Address.{broadcast}
use Rattle.mac_frame.specs.declared.frame.Unread.{Unread}
use Rattle.mac_frame.specs.declared.frame.Unread.TheVariants.{Short, Kind, Flags, Direction, Address, Body, TooLong}
use Rattle.mac_frame.specs.Samples.{network, station, host, frame as frame_of_parts}
use Rattle.station_state.specs.declared.class.Class.TheVariants.{One, Two, Three}
use Rattle.association.specs.Asked.{class_of}
use Rattle.association.specs.Request.{Request, Probe, Auth, Assoc, Disassoc, Deauth, Msdu, Null, Poll, request_of}
use Rattle.association.specs.Samples.{ssid}
use Rattle.mac_frame.proofs.Rows.{Computes}

-- a management frame to the network, by its first octet
abbrev managed : ℕ → List ℕ → List ℕ
managed control body = frame_of_parts control 0 network station network 0 body

-- ---- authentication

-- algorithm 0, step 1, status 0
abbrev authentication : List ℕ
authentication = managed 0xb0 (0 ∷ 0 ∷ 1 ∷ 0 ∷ 0 ∷ 0 ∷ [])

pub authentications : Computes (request_of network) (
    ("open system", authentication, Ok (Auth station 0 1))
    ∷ (
      "numbers, low octet first",
      managed 0xb0 (0x01 ∷ 0x02 ∷ 0x03 ∷ 0x04 ∷ 0xff ∷ 0xff ∷ 0x10 ∷ []),
      Ok (Auth station 0x0201 0x0403),
    )
    ∷ [])
authentications = refl

-- what is read of the first octets, for each of these lengths
abbrev cut_at : List ℕ → List ℕ → List (Result Request Unread)
cut_at lengths x = map (λ n. request_of network (take n x)) lengths

pub an_authentication_has_six_octets :
    cut_at (23 ∷ 24 ∷ 25 ∷ 26 ∷ 27 ∷ 28 ∷ 29 ∷ []) authentication
    ≡ Err Short ∷ Err Body ∷ Err Body ∷ Err Body ∷ Err Body ∷ Err Body ∷ Err Body ∷ []
an_authentication_has_six_octets = refl

-- ---- association

-- capability 1, listen interval 10, the SSID lab, four rates
abbrev association : List ℕ
association =
    managed 0x00
    (0x01 ∷ 0x00 ∷ 0x0a ∷ 0x00 ∷ 0x00 ∷ 0x03 ∷ 0x6c ∷ 0x61 ∷ 0x62 ∷ 0x01 ∷ 0x04 ∷ 0x02 ∷ 0x04 ∷ 0x0b ∷ 0x16 ∷ [])

-- the elements of both
abbrev lab : Pair
lab = (0, ssid)

abbrev rates : Pair
rates = (1, 0x02 ∷ 0x04 ∷ 0x0b ∷ 0x16 ∷ [])

pub an_association_request_is_read : request_of network association ≡ Ok (Assoc station false 10 (lab ∷ rates ∷ []))
unfolding elements_of elements_within
an_association_request_is_read = refl

pub four_octets_are_a_request_without_elements : cut_at (27 ∷ 28 ∷ 29 ∷ []) association
    ≡ Err Body ∷ Ok (Assoc station false 10 []) ∷ Err Body ∷ []
unfolding elements_of elements_within
four_octets_are_a_request_without_elements = refl

pub a_request_may_end_after_an_element : cut_at (32 ∷ 33 ∷ 34 ∷ 38 ∷ []) association
    ≡ Err Body ∷ Ok (Assoc station false 10 (lab ∷ [])) ∷ Err Body ∷ Err Body ∷ []
unfolding elements_of elements_within
a_request_may_end_after_an_element = refl

pub an_element_that_passes_the_end_is_refused :
    request_of network
    (managed 0x00
    (0x01 ∷ 0x00 ∷ 0x0a ∷ 0x00 ∷ 0x00 ∷ 0x03 ∷ 0x6c ∷ 0x61 ∷ 0x62 ∷ 0x01 ∷ 0x05 ∷ 0x02 ∷ 0x04 ∷ 0x0b ∷ 0x16 ∷ []))
    ≡ Err Body
unfolding elements_of elements_within
an_element_that_passes_the_end_is_refused = refl

-- the same with the network as Current AP Address
abbrev reassociation : List ℕ
reassociation =
    managed 0x20
    ((0x01 ∷ 0x00 ∷ 0x0a ∷ 0x00 ∷ []) ++ network
    ++ (0x00 ∷ 0x03 ∷ 0x6c ∷ 0x61 ∷ 0x62 ∷ 0x01 ∷ 0x04 ∷ 0x02 ∷ 0x04 ∷ 0x0b ∷ 0x16 ∷ []))

pub a_reassociation_request_is_read : request_of network reassociation ≡ Ok (Assoc station true 10 (lab ∷ rates ∷ []))
unfolding elements_of elements_within
a_reassociation_request_is_read = refl

pub ten_octets_are_a_request_without_elements : cut_at (33 ∷ 34 ∷ 35 ∷ []) reassociation
    ≡ Err Body ∷ Ok (Assoc station true 10 []) ∷ Err Body ∷ []
unfolding elements_of elements_within
ten_octets_are_a_request_without_elements = refl

-- ---- leaving

pub notices : Computes (request_of network) (
    ("a disassociation", managed 0xa0 (8 ∷ 0 ∷ []), Ok (Disassoc station))
    ∷ ("a deauthentication", managed 0xc0 (3 ∷ 0 ∷ []), Ok (Deauth station))
    ∷ ("octets after a reason", managed 0xc0 (3 ∷ 0 ∷ 0xdd ∷ 0xff ∷ []), Ok (Deauth station))
    ∷ ("half a reason", managed 0xa0 (8 ∷ []), Err Body)
    ∷ [])
notices = refl

-- ---- data and polls

-- a unit to the host on the wire
abbrev unit : List ℕ → List ℕ
unit body = frame_of_parts 0x08 0x01 network station host 0 body

abbrev poll : (flags : ℕ) → List ℕ
poll flags = (0xa4 ∷ flags ∷ 0x01 ∷ 0xc0 ∷ []) ++ network ++ station

pub units_and_polls : Computes (request_of network) (
    ("a unit", unit (0xaa ∷ 0xaa ∷ []), Ok (Msdu station false host (0xaa ∷ 0xaa ∷ [])))
    ∷ ("dozing", frame_of_parts 0x08 0x11 network station broadcast 0 [], Ok (Msdu station true broadcast []))
    ∷ ("no list of elements", unit (0x00 ∷ []), Ok (Msdu station false host (0x00 ∷ [])))
    ∷ ("a null", frame_of_parts 0x48 0x11 network station network 0 [], Ok (Null station true))
    ∷ ("a poll", poll 0, Ok (Poll station 1))
    ∷ ("a poll of 15 octets", take 15 (poll 0), Err Short)
    ∷ [])
units_and_polls = refl

-- a fault of the frame is a fault of the request
pub faults_of_frames : Computes (request_of network) (
    ("a protected unit", frame_of_parts 0x08 0x41 network station host 0 [], Err Flags)
    ∷ ("a poll to the distribution system", poll 0x01, Err Direction)
    ∷ ("to all", frame_of_parts 0xb0 0 broadcast station network 0 (0 ∷ 0 ∷ 1 ∷ 0 ∷ 0 ∷ 0 ∷ []), Err Address)
    ∷ ("too long, before its body is read", managed 0xc0 (replicate 2305 0), Err TooLong)
    ∷ ("an association response", managed 0x10 [], Err Kind)
    ∷ [])
faults_of_frames = refl

pub classes : Computes class_of (
    ("a probe request", Probe station None, One)
    ∷ ("an authentication", Auth station 0 1, One)
    ∷ ("a deauthentication", Deauth station, One)
    ∷ ("an association request", Assoc station false 10 [], Two)
    ∷ ("a disassociation", Disassoc station, Two)
    ∷ ("a unit", Msdu station false host [], Three)
    ∷ ("a null", Null station true, Three)
    ∷ ("a poll", Poll station 1, Three)
    ∷ [])
classes = refl
