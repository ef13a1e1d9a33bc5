-- Data and Null frames on which the function that reads frames is computed, and headers that are sent.
use Rattle.std.proofs.Common.{◌≡◌, ℕ, true, false, List, [], ◌∷◌, ◌++◌, take, Result, Ok, Err, refl, arith}
use Rattle.std.specs.Prelude.{replicate}
use Rattle.mac_frame.specs.Address.{broadcast}
use Rattle.mac_frame.specs.Data.{data_header}
use Rattle.mac_frame.specs.Frame.{Frame, Msdu, Null, IsFrame, frame_of}
use Rattle.mac_frame.specs.Samples.{network, other_network, station, group, host, frame}
use Rattle.mac_frame.specs.declared.frame.Unread.{Unread}
use Rattle.mac_frame.specs.declared.frame.Unread.TheVariants.{Short, Version, Kind, Flags, Direction, Address, TooLong}
use Rattle.mac_frame.proofs.Headers.{headed}
use Rattle.mac_frame.proofs.Rows.{Computes}

-- ---- what is read

-- a unit of type 0800 with one octet
abbrev unit : List ℕ
unit = 0xaa ∷ 0xaa ∷ 0x03 ∷ 0x00 ∷ 0x00 ∷ 0x00 ∷ 0x08 ∷ 0x00 ∷ 0x01 ∷ []

-- a unit to a host on the wire, octet by octet
abbrev data_to_host : List ℕ
data_to_host =
    0x08 ∷ 0x01 ∷ 0x00 ∷ 0x00
    ∷ 0x02 ∷ 0x00 ∷ 0x00 ∷ 0x00 ∷ 0x00 ∷ 0x01
    ∷ 0x02 ∷ 0xaa ∷ 0x00 ∷ 0x00 ∷ 0x00 ∷ 0x01
    ∷ 0x02 ∷ 0xbb ∷ 0x00 ∷ 0x00 ∷ 0x00 ∷ 0x01
    ∷ 0x00 ∷ 0x00
    ∷ 0xaa ∷ 0xaa ∷ 0x03 ∷ 0x00 ∷ 0x00 ∷ 0x00 ∷ 0x08 ∷ 0x00 ∷ 0x01 ∷ []

-- what is told of the station's unit to this address
abbrev active : List ℕ → List ℕ → Result Frame Unread
active to body = Ok (Msdu station false to body)

pub what_is_read : Computes (frame_of network) (
    ("a unit to a host", data_to_host, active host unit)
    ∷ ("of a station that dozes", frame 0x08 0x11 network station host 0 unit, Ok (Msdu station true host unit))
    ∷ ("a unit to all", frame 0x08 0x01 network station broadcast 0 unit, active broadcast unit)
    ∷ ("a unit to oneself", frame 0x08 0x01 network station station 0 unit, active station unit)
    ∷ ("a unit to the network", frame 0x08 0x01 network station network 0 unit, active network unit)
    ∷ ("an empty unit", frame 0x08 0x01 network station host 0 [], active host [])
    ∷ ("2304 octets", frame 0x08 0x01 network station host 0 (replicate 2304 0), active host (replicate 2304 0))
    ∷ ("retry, more data and the number ignored", frame 0x08 0x29 network station host 0xf0 unit, active host unit)
    ∷ ("a null of a station that dozes", frame 0x48 0x11 network station network 0 [], Ok (Null station true))
    ∷ ("a null of an active station", frame 0x48 0x01 network station network 0 [], Ok (Null station false))
    -- its destination and its body are ignored
    ∷ ("a null to a host", frame 0x48 0x11 network station host 0 (replicate 2304 0), Ok (Null station true))
    ∷ [])
what_is_read = refl

pub each_fault : Computes (frame_of network) (
    ("twenty-three octets", take 23 data_to_host, Err Short)
    ∷ ("another version", frame 0x09 0x01 network station host 0 unit, Err Version)
    ∷ ("a QoS Data frame", frame 0x88 0x01 network station host 0 unit, Err Kind)
    ∷ ("a QoS Null frame", frame 0xc8 0x01 network station network 0 [], Err Kind)
    ∷ ("more fragments", frame 0x08 0x05 network station host 0 unit, Err Flags)
    ∷ ("a protected frame", frame 0x08 0x41 network station host 0 unit, Err Flags)
    ∷ ("a protected null", frame 0x48 0x41 network station network 0 [], Err Flags)
    ∷ ("an HT Control field", frame 0x08 0x81 network station host 0 unit, Err Flags)
    ∷ ("a second fragment", frame 0x08 0x01 network station host 0x01 unit, Err Flags)
    ∷ ("no direction", frame 0x08 0x00 network station host 0 unit, Err Direction)
    ∷ ("from the distribution system", frame 0x08 0x02 network station host 0 unit, Err Direction)
    ∷ ("four addresses", frame 0x08 0x03 network station host 0 unit, Err Direction)
    ∷ ("a null without direction", frame 0x48 0x10 network station network 0 [], Err Direction)
    ∷ ("another receiver", frame 0x08 0x01 other_network station host 0 unit, Err Address)
    ∷ ("all as the receiver", frame 0x08 0x01 broadcast station host 0 unit, Err Address)
    ∷ ("a group that sends", frame 0x08 0x01 network group host 0 unit, Err Address)
    ∷ ("the network that sends", frame 0x48 0x01 network network network 0 [], Err Address)
    ∷ ("a unit of 2305 octets", frame 0x08 0x01 network station host 0 (replicate 2305 0), Err TooLong)
    ∷ ("a null of 2305 octets", frame 0x48 0x01 network station network 0 (replicate 2305 0), Err TooLong)
    ∷ [])
each_fault = refl

-- each string has two faults
pub the_order_of_the_faults : Computes (frame_of network) (
    ("short before version", take 23 (frame 0x09 0x01 network station host 0 []), Err Short)
    ∷ ("kind before flags", frame 0x88 0x41 network station host 0 unit, Err Kind)
    ∷ ("flags before direction", frame 0x08 0x40 network station host 0 unit, Err Flags)
    ∷ ("direction before address", frame 0x08 0x00 other_network station host 0 unit, Err Direction)
    ∷ ("address before length", frame 0x08 0x01 other_network station host 0 (replicate 2305 0), Err Address)
    ∷ [])
the_order_of_the_faults = refl

-- ---- the relation, field by field

pub the_unit_to_the_host_is_a_frame : IsFrame network data_to_host (Msdu station false host unit)
the_unit_to_the_host_is_a_frame = record {
  fields = record {
    control = 0x08 ∷ 0x01 ∷ [];
    duration = 0 ∷ 0 ∷ [];
    address_1 = network;
    address_2 = station;
    address_3 = host;
    sequence_control = 0 ∷ 0 ∷ [];
    body = unit;
  };
  data_frame = record {
    headed =
        headed network data_to_host
        (record { long = omega arith; version = refl; refused = refl; station = refl; fits = refl });
    type = refl;
    to_ds = refl;
    from_ds = refl;
    to_network = refl;
  };
  subtype = refl;
  from_is = refl;
  doze_is = refl;
  to_is = refl;
  body_is = refl;
}

-- ---- headers that are sent

pub a_unit_with_more_behind_it_has_this_header :
    data_header station network host 3 true
    ≡ 0x08 ∷ 0x22 ∷ 0x00 ∷ 0x00
    ∷ 0x02 ∷ 0xaa ∷ 0x00 ∷ 0x00 ∷ 0x00 ∷ 0x01
    ∷ 0x02 ∷ 0x00 ∷ 0x00 ∷ 0x00 ∷ 0x00 ∷ 0x01
    ∷ 0x02 ∷ 0xbb ∷ 0x00 ∷ 0x00 ∷ 0x00 ∷ 0x01
    ∷ 0x30 ∷ 0x00 ∷ []
a_unit_with_more_behind_it_has_this_header = refl

pub the_last_unit_has_this_header : data_header station network host 4 false
    ≡ (0x08 ∷ 0x02 ∷ 0 ∷ 0 ∷ []) ++ station ++ network ++ host ++ (0x40 ∷ 0 ∷ [])
the_last_unit_has_this_header = refl

pub a_unit_to_all_has_this_header : data_header broadcast network station 2 false
    ≡ (0x08 ∷ 0x02 ∷ 0 ∷ 0 ∷ []) ++ broadcast ++ network ++ station ++ (0x20 ∷ 0 ∷ [])
a_unit_to_all_has_this_header = refl

pub the_last_number_is_4095 : data_header station network host 4095 true
    ≡ (0x08 ∷ 0x22 ∷ 0 ∷ 0 ∷ []) ++ station ++ network ++ host ++ (0xf0 ∷ 0xff ∷ [])
the_last_number_is_4095 = refl
