-- Strings of octets on which the function that reads frames is computed: probe requests, and what is not read of any
-- kind.
use Rattle.std.proofs.Common.{◌≡◌, ℕ, true, false, List, [], ◌∷◌, ◌++◌, take, Result, Ok, Err, refl, inl, inr, arith}
use Rattle.std.specs.Prelude.{replicate}
use Rattle.mac_frame.specs.Address.{broadcast}
use Rattle.mac_frame.specs.Header.{addressed_to}
use Rattle.mac_frame.specs.Frame.{Frame, Mgmt, Poll, IsFrame, frame_of}
use Rattle.mac_frame.specs.Samples.{network, other_network, station, group, elements, frame}
use Rattle.mac_frame.specs.declared.frame.Unread.{Unread}
use Rattle.mac_frame.specs.declared.frame.Unread.TheVariants.{Short, Version, Kind, Flags, Direction, Address, TooLong}
use Rattle.mac_frame.proofs.Headers.{headed}
use Rattle.mac_frame.proofs.Rows.{Computes}

-- the probe request of a station to all, octet by octet
abbrev probe : List ℕ
probe =
    0x40 ∷ 0x00 ∷ 0x00 ∷ 0x00
    ∷ 0xff ∷ 0xff ∷ 0xff ∷ 0xff ∷ 0xff ∷ 0xff
    ∷ 0x02 ∷ 0xaa ∷ 0x00 ∷ 0x00 ∷ 0x00 ∷ 0x01
    ∷ 0xff ∷ 0xff ∷ 0xff ∷ 0xff ∷ 0xff ∷ 0xff
    ∷ 0x00 ∷ 0x00
    ∷ 0x00 ∷ 0x00 ∷ 0x01 ∷ 0x04 ∷ 0x02 ∷ 0x04 ∷ 0x0b ∷ 0x16 ∷ []

pub a_probe_request_is_sent_to_all : addressed_to probe ≡ broadcast
a_probe_request_is_sent_to_all = refl

-- what is told of the station's probe request with this body
abbrev to_all : List ℕ → Result Frame Unread
to_all body = Ok (Mgmt 4 station true body)

abbrev to_network : List ℕ → Result Frame Unread
to_network body = Ok (Mgmt 4 station false body)

pub what_is_read : Computes (frame_of network) (
    ("a probe request", probe, to_all elements)
    ∷ ("to the network", frame 0x40 0 network station network 0 elements, to_network elements)
    ∷ ("an empty body", take 24 probe, to_all [])
    ∷ ("2304 octets", frame 0x40 0 broadcast station broadcast 0 (replicate 2304 0), to_all (replicate 2304 0))
    ∷ ("the network named to all", frame 0x40 0 broadcast station network 0 elements, to_all elements)
    ∷ ("any network named to the network", frame 0x40 0 network station broadcast 0 elements, to_network elements)
    ∷ ("23 octets of a control frame", take 23 (frame 0xa4 0 network station network 0 []), Ok (Poll station 0))
    ∷ [])
what_is_read = refl

pub what_is_ignored : Computes (frame_of network) (
    ("retry, power management, more data", frame 0x40 0x38 broadcast station broadcast 0 elements, to_all elements)
    ∷ ("the sequence number", frame 0x40 0 broadcast station broadcast 0xf0 elements, to_all elements)
    ∷ (
      "duration and the sequence number",
      (0x40 ∷ 0 ∷ 0xff ∷ 0xff ∷ []) ++ broadcast ++ station ++ broadcast ++ (0xf0 ∷ 0xff ∷ []) ++ elements,
      to_all elements,
    )
    ∷ [])
what_is_ignored = refl

pub each_fault : Computes (frame_of network) (
    ("nothing", [], Err Short)
    ∷ ("fifteen octets", take 15 probe, Err Short)
    ∷ ("twenty-three octets", take 23 probe, Err Short)
    ∷ ("twenty-three of a data frame", take 23 (frame 0x08 0x01 network station network 0 []), Err Short)
    ∷ ("fifteen of a control frame", take 15 (frame 0xa4 0 network station [] 0 []), Err Short)
    ∷ ("version 1", frame 0x41 0 broadcast station broadcast 0 elements, Err Version)
    ∷ ("version 3", frame 0x43 0 broadcast station broadcast 0 elements, Err Version)
    ∷ ("a beacon", frame 0x80 0 broadcast station broadcast 0 elements, Err Kind)
    ∷ ("RTS, of 16 octets", take 16 (frame 0xb4 0 network station [] 0 []), Err Kind)
    -- type 3, with the subtype of a probe request
    ∷ ("an extension frame", frame 0x4c 0 broadcast station broadcast 0 elements, Err Kind)
    ∷ ("more fragments", frame 0x40 0x04 broadcast station broadcast 0 elements, Err Flags)
    ∷ ("a protected frame", frame 0x40 0x40 broadcast station broadcast 0 elements, Err Flags)
    ∷ ("an HT Control field", frame 0x40 0x80 broadcast station broadcast 0 elements, Err Flags)
    ∷ ("a second fragment", frame 0x40 0 broadcast station broadcast 0x01 elements, Err Flags)
    ∷ ("to the distribution system", frame 0x40 0x01 broadcast station broadcast 0 elements, Err Direction)
    ∷ ("from the distribution system", frame 0x40 0x02 broadcast station broadcast 0 elements, Err Direction)
    ∷ ("another receiver", frame 0x40 0 other_network station broadcast 0 elements, Err Address)
    ∷ ("a group that receives", frame 0x40 0 group station broadcast 0 elements, Err Address)
    ∷ ("a group that sends", frame 0x40 0 broadcast group broadcast 0 elements, Err Address)
    ∷ ("the network that sends", frame 0x40 0 broadcast network broadcast 0 elements, Err Address)
    ∷ ("another network", frame 0x40 0 broadcast station other_network 0 elements, Err Address)
    ∷ ("a group as the network", frame 0x40 0 broadcast station group 0 elements, Err Address)
    ∷ ("a body of 2305 octets", frame 0x40 0 broadcast station broadcast 0 (replicate 2305 0), Err TooLong)
    ∷ [])
each_fault = refl

-- each string has two faults
pub the_order_of_the_faults : Computes (frame_of network) (
    ("short before version", take 23 (frame 0x41 0 broadcast station broadcast 0 []), Err Short)
    ∷ ("version before kind", frame 0x81 0 broadcast station broadcast 0 elements, Err Version)
    ∷ ("kind before flags", frame 0x80 0x40 broadcast station broadcast 0 elements, Err Kind)
    ∷ ("flags before direction", frame 0x40 0x41 broadcast station broadcast 0 elements, Err Flags)
    ∷ ("direction before address", frame 0x40 0x01 other_network station broadcast 0 elements, Err Direction)
    ∷ ("address before length", frame 0x40 0 other_network station broadcast 0 (replicate 2305 0), Err Address)
    ∷ [])
the_order_of_the_faults = refl

-- ---- the relation, field by field

pub the_probe_request_is_a_frame : IsFrame network probe (Mgmt 4 station true elements)
the_probe_request_is_a_frame = record {
  fields = record {
    control = 0x40 ∷ 0 ∷ [];
    duration = 0 ∷ 0 ∷ [];
    address_1 = broadcast;
    address_2 = station;
    address_3 = broadcast;
    sequence_control = 0 ∷ 0 ∷ [];
    body = elements;
  };
  management = record {
    headed =
        headed network probe
        (record { long = omega arith; version = refl; refused = refl; station = refl; fits = refl });
    type = refl;
    to_ds = refl;
    from_ds = refl;
  };
  addressed = inl (record { subtype = refl; to_network = inr refl; of_network = inr refl });
  subtype_is = refl;
  from_is = refl;
  to_all_is = refl;
  body_is = refl;
}
