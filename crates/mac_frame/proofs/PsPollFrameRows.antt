-- PS-Poll frames on which the function that reads frames is computed.
use Rattle.std.proofs.Common.{ℕ, List, [], ◌∷◌, ◌++◌, take, slice_index, Ok, Err, refl, ap, arith}
use Rattle.std.specs.Prelude.{replicate}
use Rattle.mac_frame.specs.Address.{broadcast}
use Rattle.mac_frame.specs.Frame.{Poll, IsFrame, frame_of}
use Rattle.mac_frame.specs.Samples.{network, other_network, station, group}
use Rattle.mac_frame.specs.declared.frame.Unread.TheVariants.{Short, Version, Kind, Flags, Direction, Address}
use Rattle.mac_frame.proofs.Rows.{Computes}

-- a frame of these parts
abbrev poll : (control flags low high : ℕ) (bssid transmitter : List ℕ) → List ℕ
poll control flags low high bssid transmitter = (control ∷ flags ∷ low ∷ high ∷ []) ++ bssid ++ transmitter

-- the poll of the station with identifier 1, octet by octet
abbrev first_poll : List ℕ
first_poll =
    0xa4 ∷ 0x00 ∷ 0x01 ∷ 0xc0
    ∷ 0x02 ∷ 0x00 ∷ 0x00 ∷ 0x00 ∷ 0x00 ∷ 0x01
    ∷ 0x02 ∷ 0xaa ∷ 0x00 ∷ 0x00 ∷ 0x00 ∷ 0x01 ∷ []

-- where another frame has the fragment number 15
abbrev as_a_fragment : List ℕ
as_a_fragment = 0 ∷ 0 ∷ 0 ∷ 0 ∷ 0 ∷ 0 ∷ 0x0f ∷ 0x00 ∷ []

pub what_is_read : Computes (frame_of network) (
    ("a poll", first_poll, Ok (Poll station 1))
    ∷ ("the greatest identifier", poll 0xa4 0 0xd7 0xc7 network station, Ok (Poll station 2007))
    ∷ ("the two high bits are ignored", poll 0xa4 0 0x01 0x00 network station, Ok (Poll station 1))
    ∷ ("no identifier", poll 0xa4 0 0x00 0xc0 network station, Ok (Poll station 0))
    ∷ ("fourteen bits", poll 0xa4 0 0xff 0xff network station, Ok (Poll station 16383))
    ∷ ("retry, power management, more data are ignored", poll 0xa4 0x38 0x01 0xc0 network station, Ok (Poll station 1))
    ∷ ("what follows is ignored", first_poll ++ replicate 4 0, Ok (Poll station 1))
    ∷ ("there is no fragment number", first_poll ++ as_a_fragment, Ok (Poll station 1))
    ∷ ("any number of octets may follow", first_poll ++ as_a_fragment ++ replicate 2400 0, Ok (Poll station 1))
    ∷ [])
what_is_read = refl

pub each_fault : Computes (frame_of network) (
    ("fifteen octets", take 15 first_poll, Err Short)
    ∷ ("another version", poll 0xa5 0 0x01 0xc0 network station, Err Version)
    ∷ ("ACK", poll 0xd4 0 0x01 0xc0 network station, Err Kind)
    ∷ ("more fragments", poll 0xa4 0x04 0x01 0xc0 network station, Err Flags)
    ∷ ("a protected poll", poll 0xa4 0x40 0x01 0xc0 network station, Err Flags)
    ∷ ("an HT Control field", poll 0xa4 0x80 0x01 0xc0 network station, Err Flags)
    ∷ ("to the distribution system", poll 0xa4 0x01 0x01 0xc0 network station, Err Direction)
    ∷ ("from the distribution system", poll 0xa4 0x02 0x01 0xc0 network station, Err Direction)
    ∷ ("another network", poll 0xa4 0 0x01 0xc0 other_network station, Err Address)
    ∷ ("all networks", poll 0xa4 0 0x01 0xc0 broadcast station, Err Address)
    ∷ ("a group that polls", poll 0xa4 0 0x01 0xc0 network group, Err Address)
    ∷ ("the network that polls", poll 0xa4 0 0x01 0xc0 network network, Err Address)
    ∷ [])
each_fault = refl

-- each string has two faults
pub the_order_of_the_faults : Computes (frame_of network) (
    ("short before version", take 15 (poll 0xa5 0 0x01 0xc0 network station), Err Short)
    ∷ ("version before kind", poll 0xd5 0 0x01 0xc0 network station, Err Version)
    ∷ ("kind before flags", poll 0xd4 0x40 0x01 0xc0 network station, Err Kind)
    ∷ ("flags before direction", poll 0xa4 0x41 0x01 0xc0 network station, Err Flags)
    ∷ ("direction before address", poll 0xa4 0x01 0x01 0xc0 other_network station, Err Direction)
    ∷ [])
the_order_of_the_faults = refl

-- ---- the relation, field by field

pub the_first_poll_is_a_frame : IsFrame network first_poll (Poll station 1)
the_first_poll_is_a_frame = record {
  fields =
      record { control = 0xa4 ∷ 0x00 ∷ []; aid = 0x01 ∷ 0xc0 ∷ []; bssid = network; transmitter = station; rest = [] };
  polled = record {
    string = refl;
    control = refl;
    aid = refl;
    bssid = refl;
    transmitter = refl;
    version = refl;
    type = refl;
    subtype = refl;
    to_ds = refl;
    from_ds = refl;
    more_fragments = refl;
    protected = refl;
    order = refl;
    to_network = refl;
    from_station = refl;
    from_another = λ same. omega (arith, ap (λ address. slice_index address 1) same);
  };
  from_is = refl;
  aid_is = refl;
}
