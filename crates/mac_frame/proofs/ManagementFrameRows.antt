-- Management frames that a station sends to its network alone, on which the function that reads frames is computed.
use Rattle.std.proofs.Common.{ℕ, false, List, [], ◌∷◌, ◌++◌, Result, Ok, Err, refl, inr, arith}
use Rattle.std.specs.Prelude.{replicate}
use Rattle.mac_frame.specs.Address.{broadcast}
use Rattle.mac_frame.specs.Frame.{Frame, Mgmt, IsFrame, frame_of}
use Rattle.mac_frame.specs.Samples.{network, other_network, station, group, elements, frame}
use Rattle.mac_frame.specs.declared.frame.Unread.{Unread}
use Rattle.mac_frame.specs.declared.frame.Unread.TheVariants.{Version, Kind, Flags, Direction, Address, TooLong}
use Rattle.mac_frame.proofs.Headers.{headed}
use Rattle.mac_frame.proofs.Rows.{Computes}

-- ---- what is read

-- the authentication of a station, octet by octet
abbrev authentication : List ℕ
authentication =
    0xb0 ∷ 0x00 ∷ 0x00 ∷ 0x00
    ∷ 0x02 ∷ 0x00 ∷ 0x00 ∷ 0x00 ∷ 0x00 ∷ 0x01
    ∷ 0x02 ∷ 0xaa ∷ 0x00 ∷ 0x00 ∷ 0x00 ∷ 0x01
    ∷ 0x02 ∷ 0x00 ∷ 0x00 ∷ 0x00 ∷ 0x00 ∷ 0x01
    ∷ 0x00 ∷ 0x00
    ∷ 0x00 ∷ 0x00 ∷ 0x01 ∷ 0x00 ∷ 0x00 ∷ 0x00 ∷ []

-- algorithm 0, step 1, status 0
abbrev open_system : List ℕ
open_system = 0 ∷ 0 ∷ 1 ∷ 0 ∷ 0 ∷ 0 ∷ []

-- capability 1 and listen interval 10, the SSID lab, four rates
abbrev association : List ℕ
association =
    0x01 ∷ 0x00 ∷ 0x0a ∷ 0x00 ∷ 0x00 ∷ 0x03 ∷ 0x6c ∷ 0x61 ∷ 0x62 ∷ 0x01 ∷ 0x04 ∷ 0x02 ∷ 0x04 ∷ 0x0b ∷ 0x16 ∷ []

-- capability 1 and listen interval 10, the network as the current one, the SSID lab, four rates
abbrev reassociation : List ℕ
reassociation =
    (0x01 ∷ 0x00 ∷ 0x0a ∷ 0x00 ∷ []) ++ network
    ++ (0x00 ∷ 0x03 ∷ 0x6c ∷ 0x61 ∷ 0x62 ∷ 0x01 ∷ 0x04 ∷ 0x02 ∷ 0x04 ∷ 0x0b ∷ 0x16 ∷ [])

-- the reason of a station that leaves
abbrev reason : List ℕ
reason = 3 ∷ 0 ∷ []

-- what is told of the station's frame of this subtype
abbrev told : ℕ → List ℕ → Result Frame Unread
told subtype body = Ok (Mgmt subtype station false body)

pub what_is_read : Computes (frame_of network) (
    ("an authentication", authentication, told 11 open_system)
    ∷ ("an association request", frame 0x00 0 network station network 0 association, told 0 association)
    ∷ ("a reassociation request", frame 0x20 0 network station network 0 reassociation, told 2 reassociation)
    ∷ ("a disassociation", frame 0xa0 0 network station network 0 (8 ∷ 0 ∷ []), told 10 (8 ∷ 0 ∷ []))
    ∷ ("a deauthentication", frame 0xc0 0 network station network 0 reason, told 12 reason)
    ∷ ("an empty body", frame 0xb0 0 network station network 0 [], told 11 [])
    ∷ ("2304 octets", frame 0xc0 0 network station network 0 (replicate 2304 0), told 12 (replicate 2304 0))
    -- retry, power management, more data and the sequence number
    ∷ ("what is ignored", frame 0xb0 0x38 network station network 0xf0 open_system, told 11 open_system)
    ∷ [])
what_is_read = refl

-- sent to all, or for any, as a probe request alone may be
pub other_addresses : Computes (frame_of network) (
    ("to all", frame 0xb0 0 broadcast station network 0 open_system, Err Address)
    ∷ ("for any network", frame 0xb0 0 network station broadcast 0 open_system, Err Address)
    ∷ ("a deauthentication to all", frame 0xc0 0 broadcast station broadcast 0 reason, Err Address)
    ∷ ("to another network", frame 0x00 0 other_network station other_network 0 association, Err Address)
    ∷ ("for another network", frame 0x00 0 network station other_network 0 association, Err Address)
    ∷ [])
other_addresses = refl

pub each_other_fault : Computes (frame_of network) (
    ("a group that authenticates", frame 0xb0 0 network group network 0 open_system, Err Address)
    ∷ ("the network that authenticates", frame 0xb0 0 network network network 0 open_system, Err Address)
    ∷ ("another version", frame 0xb1 0 network station network 0 open_system, Err Version)
    ∷ ("a protected frame", frame 0xb0 0x40 network station network 0 open_system, Err Flags)
    ∷ ("a second fragment", frame 0xb0 0 network station network 0x01 open_system, Err Flags)
    ∷ ("to the distribution system", frame 0xb0 0x01 network station network 0 open_system, Err Direction)
    ∷ ("from the distribution system", frame 0xb0 0x02 network station network 0 open_system, Err Direction)
    ∷ ("a body of 2305 octets", frame 0xb0 0 network station network 0 (replicate 2305 0), Err TooLong)
    ∷ [])
each_other_fault = refl

-- what an access point sends is not read, nor is what it doesn't announce
pub other_subtypes : Computes (frame_of network) (
    ("an association response", frame 0x10 0 network station network 0 [], Err Kind)
    ∷ ("a reassociation response", frame 0x30 0 network station network 0 [], Err Kind)
    ∷ ("a probe response", frame 0x50 0 network station network 0 elements, Err Kind)
    ∷ ("an action frame", frame 0xd0 0 network station network 0 [], Err Kind)
    ∷ [])
other_subtypes = refl

-- ---- the relation, field by field

pub the_authentication_is_a_frame : IsFrame network authentication (Mgmt 11 station false open_system)
the_authentication_is_a_frame = record {
  fields = record {
    control = 0xb0 ∷ 0 ∷ [];
    duration = 0 ∷ 0 ∷ [];
    address_1 = network;
    address_2 = station;
    address_3 = network;
    sequence_control = 0 ∷ 0 ∷ [];
    body = open_system;
  };
  management = record {
    headed =
        headed network authentication
        (record { long = omega arith; version = refl; refused = refl; station = refl; fits = refl });
    type = refl;
    to_ds = refl;
    from_ds = refl;
  };
  addressed = inr (record { subtype = refl; to_network = refl; of_network = refl });
  subtype_is = refl;
  from_is = refl;
  to_all_is = refl;
  body_is = refl;
}
