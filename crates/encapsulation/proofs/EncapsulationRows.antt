-- What the definitions say of some frames and bodies.
use Rattle.std.proofs.Common.{◌≡◌, ℕ, List, [], ◌∷◌, ◌++◌, replicate, Option, Some, None, refl}
use Rattle.encapsulation.specs.declared.ethernet.Kind.TheVariants.{Typed, Sized}
use Rattle.encapsulation.specs.Encapsulation.{rfc1042_header, on_air, on_wire}
use Rattle.encapsulation.proofs.Samples.{station, host, to_station}
use Rattle.mac_frame.proofs.Rows.{Computes}

-- ---- to the air

a_type_stands_after_the_header :
    on_air (record { to = station; source = host; kind = Typed 0x0800; payload = 0x01 ∷ [] })
    ≡ 0xaa ∷ 0xaa ∷ 0x03 ∷ 0x00 ∷ 0x00 ∷ 0x00 ∷ 0x08 ∷ 0x00 ∷ 0x01 ∷ []
a_type_stands_after_the_header = refl

a_sized_frame_is_its_payload :
    on_air (record { to = station; source = host; kind = Sized; payload = 0xaa ∷ 0xbb ∷ 0xcc ∷ [] })
    ≡ 0xaa ∷ 0xbb ∷ 0xcc ∷ []
a_sized_frame_is_its_payload = refl

-- ---- to the wire

-- the Ethernet frame from the host to the station that carries a body
abbrev wired : List ℕ → Option (List ℕ)
wired body = on_wire station host body

abbrev below_the_types : List ℕ
below_the_types = rfc1042_header ++ (0x05 ∷ 0xff ∷ 0x01 ∷ [])

-- the header of IEEE Std 802.1H for the few types that are translated otherwise
abbrev for_few_types : List ℕ
for_few_types = 0xaa ∷ 0xaa ∷ 0x03 ∷ 0x00 ∷ 0x00 ∷ 0xf8 ∷ 0x08 ∷ 0x00 ∷ 0x01 ∷ []

what_is_wired : Computes wired (
    ("a type", rfc1042_header ++ (0x08 ∷ 0x00 ∷ 0x01 ∷ []), Some (to_station 0x08 0x00 (0x01 ∷ [])))
    ∷ ("a type without a payload", rfc1042_header ++ (0x08 ∷ 0x00 ∷ []), Some (to_station 0x08 0x00 []))
    ∷ ("half a type", rfc1042_header ++ (0x08 ∷ []), Some (to_station 0x00 0x07 (rfc1042_header ++ (0x08 ∷ []))))
    ∷ ("the least type", rfc1042_header ++ (0x06 ∷ 0x00 ∷ 0x01 ∷ []), Some (to_station 0x06 0x00 (0x01 ∷ [])))
    ∷ ("type 05ff is none", below_the_types, Some (to_station 0x00 0x09 below_the_types))
    ∷ ("another organization", for_few_types, Some (to_station 0x00 0x09 for_few_types))
    ∷ ("eight octets of another header", replicate 8 0x42, Some (to_station 0x00 0x08 (replicate 8 0x42)))
    ∷ ("no octet", [], None)
    ∷ ("two octets", 0xaa ∷ 0xaa ∷ [], None)
    ∷ ("three octets", 0xaa ∷ 0xaa ∷ 0x03 ∷ [], Some (to_station 0x00 0x03 (0xaa ∷ 0xaa ∷ 0x03 ∷ [])))
    ∷ ("the longest sized body", replicate 1500 7, Some (to_station 0x05 0xdc (replicate 1500 7)))
    ∷ ("one octet more", replicate 1501 7, None)
    -- a type has no such limit
    ∷ ("the most", rfc1042_header ++ (0x08 ∷ 0x00 ∷ replicate 2296 7), Some (to_station 0x08 0x00 (replicate 2296 7)))
    ∷ [])
what_is_wired = refl
