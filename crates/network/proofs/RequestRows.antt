-- Strings of octets on which the functions that read requests and test addresses are computed.
use Rattle.std.proofs.Common.{◌≡◌, ℕ, true, false, List, [], ◌∷◌, ◌++◌, take, Result, Some, None, Ok, Err, refl}
use Rattle.std.specs.Prelude.{map, replicate}
use Rattle.mac_frame.specs.declared.frame.Unread.{Unread}
use Rattle.mac_frame.specs.declared.frame.Unread.TheVariants.{Short, Kind, Body, TooLong}
use Rattle.mac_frame.specs.Address.{broadcast}
use Rattle.elements.specs.Elements.{elements_of, elements_within}
use Rattle.mac_frame.specs.Hearing.{is_heard}
use Rattle.association.specs.Request.{Request, Probe, request_of}
use Rattle.ap_config.specs.Samples.{bssid, station, lab}
use Rattle.network.specs.Samples.{probe, probe_with, probe_for_lab, station_rates}
use Rattle.mac_frame.proofs.Rows.{Computes}

-- ---- what is heard

-- ---- what is read

pub what_is_read : Computes (request_of bssid) (
    ("a wildcard SSID is read", probe, Ok (Probe station (Some [])))
    ∷ ("an SSID is read", probe_for_lab, Ok (Probe station (Some lab)))
    ∷ ("an empty body names no SSID", probe_with [], Ok (Probe station None))
    ∷ ("other elements name no SSID", probe_with station_rates, Ok (Probe station None))
    ∷ ("an SSID may stand last", probe_with (station_rates ++ (0x00 ∷ 0x01 ∷ 0x61 ∷ [])), Ok (Probe station (Some (0x61 ∷ []))))
    ∷ ("the first of two SSIDs counts", probe_with (0x00 ∷ 0x01 ∷ 0x61 ∷ 0x00 ∷ 0x00 ∷ []), Ok (Probe station (Some (0x61 ∷ []))))
    ∷ ("an SSID of 33 octets is read", probe_with (0x00 ∷ 33 ∷ replicate 33 0x61), Ok (Probe station (Some (replicate 33 0x61))))
    ∷ [])
unfolding elements_of elements_within
what_is_read = refl

-- ---- what is not

pub what_is_heard : Computes (is_heard bssid) (
    ("a frame to all is heard", probe, true)
    ∷ ("ten octets to the network are heard", (0 ∷ 0 ∷ 0 ∷ 0 ∷ []) ++ bssid, true)
    ∷ ("nine octets are not heard", take 9 probe, false)
    ∷ ("a frame to another is not heard", (0 ∷ 0 ∷ 0 ∷ 0 ∷ []) ++ station ++ bssid ++ bssid, false)
    ∷ ("a group address is not heard", (0 ∷ 0 ∷ 0 ∷ 0 ∷ []) ++ (0x01 ∷ 0 ∷ 0x5e ∷ 0 ∷ 0 ∷ 0x01 ∷ []) ++ station ++ bssid, false)
    ∷ [])
what_is_heard = refl

pub what_is_not_read : Computes (request_of bssid) (
    ("one octet alone is no element", probe_with (0x00 ∷ []), Err Body)
    ∷ ("an SSID that passes the end is refused", probe_with (0x00 ∷ 0x04 ∷ 0x6c ∷ 0x61 ∷ 0x62 ∷ []), Err Body)
    ∷ ("a later element that passes the end is refused", probe_with (0x00 ∷ 0x00 ∷ 0x01 ∷ 0x05 ∷ 0x02 ∷ 0x04 ∷ 0x0b ∷ 0x16 ∷ []), Err Body)
    ∷ ("a last octet alone is refused", probe_with (0x00 ∷ 0x00 ∷ 0x01 ∷ []), Err Body)
    ∷ ("an element of 255 octets that has 254 is refused", probe_with (0xdd ∷ 0xff ∷ replicate 254 0), Err Body)
    ∷ ("a fault of the frame is a fault of the request", take 23 probe, Err Short)
    ∷ ("a beacon is no request", (0x80 ∷ 0x00 ∷ 0x00 ∷ 0x00 ∷ []) ++ broadcast ++ station ++ broadcast ++ (0x00 ∷ 0x00 ∷ []), Err Kind)
    ∷ ("a long body is refused before its elements", probe_with (replicate 2305 0), Err TooLong)
    ∷ ("an unknown element is skipped", probe_with (0xdd ∷ 0x02 ∷ 0x00 ∷ 0x00 ∷ 0x00 ∷ 0x01 ∷ 0x61 ∷ []), Ok (Probe station (Some (0x61 ∷ []))))
    ∷ ("an element of 255 octets is skipped", probe_with ((0xdd ∷ 0xff ∷ replicate 255 0) ++ (0x00 ∷ 0x00 ∷ [])), Ok (Probe station (Some [])))
    ∷ [])
unfolding elements_of elements_within
what_is_not_read = refl

-- ---- the probe cut short, at each length

abbrev cut_at : List ℕ → List (Result Request Unread)
cut_at lengths = map (λ n. request_of bssid (take n probe)) lengths

pub a_cut_header_is_short : cut_at (0 ∷ 1 ∷ 2 ∷ 3 ∷ 4 ∷ 5 ∷ 6 ∷ 7 ∷ 8 ∷ 9 ∷ 10 ∷ 11 ∷ 12 ∷ 13 ∷ 14 ∷ 15 ∷ 16 ∷ 17 ∷ 18 ∷ 19 ∷ 20 ∷ 21 ∷ 22 ∷ 23 ∷ []) ≡ replicate 24 (Err Short)
a_cut_header_is_short = refl

pub the_probe_cut_short : Computes (request_of bssid) (
    ("a header alone names no SSID", take 24 probe, Ok (Probe station None))
    ∷ ("two octets of the body name the wildcard SSID", take 26 probe, Ok (Probe station (Some [])))
    ∷ [])
unfolding elements_of elements_within
the_probe_cut_short = refl

pub a_cut_element_is_refused : cut_at (25 ∷ 27 ∷ 28 ∷ 29 ∷ 30 ∷ 31 ∷ []) ≡ replicate 6 (Err Body)
unfolding elements_of elements_within
a_cut_element_is_refused = refl
