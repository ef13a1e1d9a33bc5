-- What the definitions say of some strings.
use Rattle.std.proofs.Common.{ℕ, List, [], ◌∷◌, ◌++◌, replicate, take, Result, Ok, Err, refl, arith}
use Rattle.mac_frame.specs.declared.frame.Unread.{Unread}
use Rattle.mac_frame.specs.declared.frame.Unread.TheVariants.{Short, Body, TooLong}
use Rattle.encapsulation.specs.declared.ethernet.Kind.{Kind}
use Rattle.encapsulation.specs.declared.ethernet.Kind.TheVariants.{Typed, Sized}
use Rattle.encapsulation.specs.Ethernet.{Ethernet, IsEthernet, ethernet_of}
use Rattle.encapsulation.proofs.Samples.{station, host, to_station}
use Rattle.mac_frame.proofs.Rows.{Computes}

-- the frame from the host to the station
abbrev between : Kind → List ℕ → Ethernet
between kind payload = record { to = station; source = host; kind = kind; payload = payload }

abbrev from_host : Kind → List ℕ → Result Ethernet Unread
from_host kind payload = Ok (between kind payload)

abbrev three : List ℕ
three = 0xaa ∷ 0xbb ∷ 0xcc ∷ []

what_is_read : Computes ethernet_of (
    ("a type", to_station 0x08 0x00 (0x01 ∷ []), from_host (Typed 0x0800) (0x01 ∷ []))
    ∷ ("fourteen octets", to_station 0x08 0x00 [], from_host (Typed 0x0800) [])
    ∷ ("the least type", to_station 0x06 0x00 (0x07 ∷ []), from_host (Typed 0x0600) (0x07 ∷ []))
    ∷ ("the greatest length", to_station 0x05 0xdc (replicate 1500 7), from_host Sized (replicate 1500 7))
    ∷ ("the least length", to_station 0x00 0x03 three, from_host Sized three)
    ∷ ("padding is ignored", to_station 0x00 0x03 (three ++ 0xdd ∷ 0xdd ∷ []), from_host Sized three)
    ∷ ("2296 octets after a type", to_station 0x06 0x00 (replicate 2296 7), from_host (Typed 0x0600) (replicate 2296 7))
    ∷ [])
what_is_read = refl

each_fault : Computes ethernet_of (
    ("thirteen octets", take 13 (to_station 0x08 0x00 []), Err Short)
    ∷ ("05ff is no type and no length", to_station 0x05 0xff (replicate 1535 7), Err Body)
    ∷ ("05dd is no length", to_station 0x05 0xdd (replicate 1501 7), Err Body)
    ∷ ("a payload below its length", to_station 0x05 0xdc (replicate 1499 7), Err Body)
    ∷ ("two is no length", to_station 0x00 0x02 (0xaa ∷ 0xbb ∷ []), Err Body)
    ∷ ("zero is no length", to_station 0x00 0x00 [], Err Body)
    ∷ ("one octet too many after a type", to_station 0x06 0x00 (replicate 2297 7), Err TooLong)
    ∷ [])
each_fault = refl

-- ---- the relation

a_padded_frame_is_this_frame : IsEthernet (to_station 0x00 0x03 (three ++ 0xdd ∷ [])) (between Sized three)
a_padded_frame_is_this_frame = record {
  padding = 0xdd ∷ [];
  parts = record {
    field = 0x00 ∷ 0x03 ∷ [];
    string = refl;
    destination_len = refl;
    source_len = refl;
    field_len = refl;
    number_is = refl;
  };
  least = omega arith;
  greatest = omega arith;
}
