-- The same unit on the air and on the wire (IEEE Std 802.11-2016, 5.1.4; RFC 1042).
use Rattle.std.specs.Prelude.{ℕ, ◌≡◌, Bool, nat_le, ◌&&◌, List, [], ◌∷◌, ◌++◌, length, take, drop, Option, Some, None}
use Rattle.std.specs.Prelude.{option_map, if◌then◌else◌}
use Rattle.std.specs.Int.{w16, to_be_bytes}
use Rattle.std.specs.Str.{bytes_eq}
use Rattle.encapsulation.specs.Ethernet.{Ethernet, IsEthernet, number, is_type, is_length}
use Rattle.encapsulation.specs.declared.ethernet.Kind.{Kind}
use Rattle.encapsulation.specs.declared.ethernet.Kind.TheVariants.{Typed, Sized}

-- the header of RFC 1042: both service access points AA, unnumbered information (03), organization code 00-00-00
abbrev pub rfc1042_header : List ℕ
rfc1042_header = 0xaa ∷ 0xaa ∷ 0x03 ∷ 0x00 ∷ 0x00 ∷ 0x00 ∷ []

-- ---- to the air

-- the body of a payload of this kind
abbrev pub body_of : Kind → List ℕ → List ℕ
body_of (Typed type) payload = rfc1042_header ++ to_be_bytes w16 type ++ payload
body_of Sized payload = payload

-- the body of the 802.11 frame that carries an Ethernet frame
abbrev pub on_air : Ethernet → List ℕ
on_air w = body_of w.kind w.payload

-- ---- to the wire

-- the number of the two octets after the header
abbrev pub type_of : List ℕ → ℕ
type_of body = number (take 2 (drop 6 body))

-- the header stands first, and a type after it
abbrev pub names_type : List ℕ → Bool
names_type body = bytes_eq (take 6 body) rfc1042_header && nat_le 8 (length body) && is_type (type_of body)

-- the type or length, and the payload, of the frame that carries a body, if there is one (profile)
abbrev pub number_and_payload : List ℕ → Option (ℕ × List ℕ)
number_and_payload body =
    if names_type body then Some (type_of body, drop 8 body)
    else if is_length (length body) then Some (length body, body)
    else None

-- the octets of the Ethernet frame that carries a body, or none where it has no wired form
abbrev pub on_wire : List ℕ → List ℕ → List ℕ → Option (List ℕ)
on_wire to source body =
    option_map (λ parts. to ++ source ++ to_be_bytes w16 parts.0 ++ parts.1) (number_and_payload body)

-- the string is an Ethernet frame from one address to another, whose body on the air is this one
pub record Carries (y to source body : List ℕ) : Type 0 where
  pub frame : Ethernet
  pub string : IsEthernet y frame
  pub destination_is : frame.to ≡ to
  pub source_is : frame.source ≡ source
  pub body_is : on_air frame ≡ body
