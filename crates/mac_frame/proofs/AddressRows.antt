-- Texts of addresses on which the definitions are computed.
use Rattle.std.proofs.Common.{◌≡◌, true, false, [], ◌∷◌, Some, None, refl}
use Rattle.std.specs.Prelude.{codes}
use Rattle.mac_frame.specs.Address.{broadcast, is_group, address_of, address_text}
use Rattle.mac_frame.specs.Samples.{station}
use Rattle.mac_frame.proofs.Rows.{Computes}

pub an_address_is_shown_in_lower_case : address_text station ≡ codes "02:aa:00:00:00:01"
an_address_is_shown_in_lower_case = refl

pub all_bits_are_shown : address_text broadcast ≡ codes "ff:ff:ff:ff:ff:ff"
all_bits_are_shown = refl

pub what_is_parsed : Computes address_of (
    ("lower case", codes "02:aa:00:00:00:01", Some station)
    ∷ ("upper case", codes "02:AA:00:00:00:01", Some station)
    ∷ ("both cases", codes "fF:Ff:ff:FF:fF:Ff", Some broadcast)
    ∷ ("another separator", codes "02:aa:00:00:00-01", None)
    ∷ ("another digit", codes "02:ag:00:00:00:01", None)
    ∷ ("a space for a digit", codes "02:aa:00:00:00: 1", None)
    ∷ ("sixteen characters", codes "02:aa:00:00:00:0", None)
    ∷ ("eighteen characters", codes "02:aa:00:00:00:011", None)
    ∷ ("no character", [], None)
    ∷ [])
what_is_parsed = refl

pub what_is_a_group : Computes is_group (
    ("the broadcast address", broadcast, true)
    ∷ ("a local address", station, false)
    ∷ ("the last octet makes none", 0 ∷ 0x01 ∷ 0x01 ∷ 0x01 ∷ 0x01 ∷ 0x01 ∷ [], false)
    ∷ [])
what_is_a_group = refl
