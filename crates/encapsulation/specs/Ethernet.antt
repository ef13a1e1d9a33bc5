-- Ethernet frames (IEEE Std 802.3, 3.1.1 and 3.2): which string of octets is which frame, and the first fault of a
-- string that is none.
use Rattle.std.specs.Prelude.{ℕ, ◌≤◌, ◌≡◌, Bool, nat_lt, nat_le, ◌&&◌, List, ◌++◌, length, take, drop, Result, Ok, Err}
use Rattle.std.specs.Prelude.{if◌then◌else◌}
use Rattle.std.specs.Int.{w16, from_be_bytes}
use Rattle.mac_frame.specs.declared.frame.Unread.{Unread}
use Rattle.mac_frame.specs.declared.frame.Unread.TheVariants.{Short, Body, TooLong}
use Rattle.encapsulation.specs.declared.ethernet.Ether.{Ether}
use Rattle.encapsulation.specs.declared.ethernet.Kind.{Kind}
use Rattle.encapsulation.specs.declared.ethernet.Kind.TheVariants.{Typed, Sized}

-- a frame without where its payload lies in memory
pub record Ethernet : Type 0 where
  pub to : List ℕ
  pub source : List ℕ
  pub kind : Kind
  pub payload : List ℕ

abbrev pub shown : Ether → Ethernet
shown e = record { to = e.to; source = e.source; kind = e.kind; payload = e.payload.now }

-- ---- the Length/Type field (IEEE Std 802.3, 3.2.6)

-- the number of two octets, the high one first
abbrev pub number : List ℕ → ℕ
number octets = from_be_bytes w16 octets

abbrev pub is_type : ℕ → Bool
is_type n = nat_le 0x0600 n

-- lengths below 3 are not read (profile)
abbrev pub is_length : ℕ → Bool
is_length n = nat_le 3 n && nat_le n 1500

-- ---- as a relation: the whole string, field by field

-- two addresses, a field of two octets with this number, and what follows
pub record IsParted (y to source : List ℕ) (n : ℕ) (rest : List ℕ) : Type 0 where
  pub field : List ℕ
  pub string : y ≡ to ++ source ++ field ++ rest
  pub destination_len : length to ≡ 6
  pub source_len : length source ≡ 6
  pub field_len : length field ≡ 2
  pub number_is : number field ≡ n

-- a frame that names a type: its payload is all that follows, at most 2296 octets (profile)
pub record IsTyped (y to source : List ℕ) (type : ℕ) (payload : List ℕ) : Type 0 where
  pub parts : IsParted y to source type payload
  pub least : 0x0600 ≤ type
  pub short : length payload ≤ 2296

-- a frame that names the length of its payload; what follows the payload is padding, which is ignored
pub record IsSized (y to source payload : List ℕ) : Type 0 where
  pub padding : List ℕ
  pub parts : IsParted y to source (length payload) (payload ++ padding)
  pub least : 3 ≤ length payload
  pub greatest : length payload ≤ 1500

-- the string is a frame of this kind
abbrev pub IsOfKind : Kind → List ℕ → List ℕ → List ℕ → List ℕ → Type 0
IsOfKind (Typed type) y to source payload = IsTyped y to source type payload
IsOfKind Sized y to source payload = IsSized y to source payload

-- the string is this frame
abbrev pub IsEthernet : List ℕ → Ethernet → Type 0
IsEthernet y w = IsOfKind w.kind y w.to w.source w.payload

-- ---- as a function: the tests in their order, by the places of the octets

-- the number of the Length/Type field
abbrev pub number_of : List ℕ → ℕ
number_of y = number (take 2 (drop 12 y))

-- what follows that field
abbrev pub rest_of : List ℕ → List ℕ
rest_of y = drop 14 y

-- the frame of the addresses at their places
abbrev pub frame_at : List ℕ → Kind → List ℕ → Ethernet
frame_at y kind payload = record { to = take 6 y; source = take 6 (drop 6 y); kind = kind; payload = payload }

-- the frame whose field is a type, or its fault
abbrev pub typed_of : List ℕ → Result Ethernet Unread
typed_of y = if nat_lt 2296 (length (rest_of y)) then Err TooLong else Ok (frame_at y (Typed (number_of y)) (rest_of y))

-- the frame whose field is a length, or its fault
abbrev pub sized_of : List ℕ → Result Ethernet Unread
sized_of y =
    if nat_lt (length (rest_of y)) (number_of y) then Err Body else Ok
    (frame_at y Sized (take (number_of y) (rest_of y)))

-- the frame that a string is, or its first fault
abbrev pub ethernet_of : List ℕ → Result Ethernet Unread
ethernet_of y =
    if nat_lt (length y) 14 then Err Short
    else if is_type (number_of y) then typed_of y
    else if is_length (number_of y) then sized_of y
    else Err Body
