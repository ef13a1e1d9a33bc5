-- Headers of 24 octets (IEEE Std 802.11-2016, 9.2.3, 9.3.2.1 and 9.3.3.2): what all frames that have one share, and the
-- octets of one that is sent.
use Rattle.std.specs.Prelude.{ℕ, ◌*◌, ◌≤◌, ◌≡◌, ◌≢◌, Bool, false, not, nat_lt, ◌==◌, ◌||◌, List, [], ◌∷◌, ◌++◌, length}
use Rattle.std.specs.Prelude.{take, drop, Result, Ok, Err, if◌then◌else◌}
use Rattle.std.specs.Int.{w16, from_le_bytes, to_le_bytes}
use Rattle.std.specs.Str.{bytes_eq}
use Rattle.mac_frame.specs.Address.{is_group, is_station}
use Rattle.mac_frame.specs.FrameControl.{bits, control_of, has_refused_flags, octets_of}
use Rattle.mac_frame.specs.declared.frame_control.FrameControl.{FrameControl}
use Rattle.mac_frame.specs.declared.frame.Unread.{Unread}
use Rattle.mac_frame.specs.declared.frame.Unread.TheVariants.{Flags, Direction, Address, TooLong}

-- Sequence Control (9.2.4.4): the fragment number in the low four bits
abbrev pub fragment_of : List ℕ → ℕ
fragment_of sequence_control = bits (from_le_bytes w16 sequence_control) 0 4

-- ---- heard, as a relation: the whole string, field by field

-- the fields of a header in their order, and the body that follows them
pub record Fields : Type 0 where
  pub control : List ℕ
  pub duration : List ℕ
  pub address_1 : List ℕ
  pub address_2 : List ℕ
  pub address_3 : List ℕ
  pub sequence_control : List ℕ
  pub body : List ℕ

abbrev pub spelled : Fields → List ℕ
spelled f =
    f.control ++ f.duration ++ f.address_1 ++ f.address_2 ++ f.address_3 ++ f.sequence_control ++ f.body

-- The string is a whole frame in the clear that a station sends, with these fields. Of which kind it is, where it goes,
-- and what Address 1 and Address 3 are, is left to each kind.
pub record IsHeaded (bss x : List ℕ) (f : Fields) : Type 0 where
  pub string : x ≡ spelled f
  pub control : length f.control ≡ 2
  pub duration : length f.duration ≡ 2
  pub address_1 : length f.address_1 ≡ 6
  pub address_2 : length f.address_2 ≡ 6
  pub address_3 : length f.address_3 ≡ 6
  pub sequence_control : length f.sequence_control ≡ 2
  pub version : (control_of f.control).version ≡ 0
  pub more_fragments : (control_of f.control).more_fragments ≡ false
  pub protected : (control_of f.control).protected ≡ false
  pub order : (control_of f.control).order ≡ false
  pub first_fragment : fragment_of f.sequence_control ≡ 0
  pub from_station : is_group f.address_2 ≡ false
  pub from_another : f.address_2 ≢ bss
  -- 9.2.4.7.1
  pub body : length f.body ≤ 2304

-- ---- heard, as tests, by the places of the octets

-- Frame Control
abbrev pub control_at : List ℕ → FrameControl
control_at x = control_of (take 2 x)

-- the six octets from a place on
abbrev pub address_at : List ℕ → ℕ → List ℕ
address_at x place = take 6 (drop place x)

-- the address that a frame is sent to: Address 1
abbrev pub addressed_to : List ℕ → List ℕ
addressed_to x = address_at x 4

-- the fragment number, of Sequence Control
abbrev pub fragment_at : List ℕ → ℕ
fragment_at x = fragment_of (take 2 (drop 22 x))

-- a fragment, a protected frame, or one with an HT Control field
abbrev pub is_refused : List ℕ → Bool
is_refused x = has_refused_flags (control_at x) || not (fragment_at x == 0)

-- Address 2 is that of a station
abbrev pub is_from_station : List ℕ → List ℕ → Bool
is_from_station bss x = is_station bss (address_at x 10)

-- Address 1 is the network's
abbrev pub is_to_network : List ℕ → List ℕ → Bool
is_to_network bss x = bytes_eq (addressed_to x) bss

-- more octets after the header than a frame has
abbrev pub is_too_long : List ℕ → Bool
is_too_long x = nat_lt 2304 (length (drop 24 x))

-- what is read where none of these faults is there, and the first of them elsewhere
abbrev pub unless_faulty : {A : Type 0} → Bool → Bool → Bool → Bool → A → Result A Unread
unless_faulty refused direction address too_long frame =
    if refused then Err Flags
    else if direction then Err Direction
    else if address then Err Address
    else if too_long then Err TooLong
    else Ok frame

-- ---- sent

-- Duration (9.2.4.2) is sent as 0 (profile)
abbrev pub duration : List ℕ
duration = 0 ∷ 0 ∷ []

-- Sequence Control (9.2.4.4): fragment number 0 in the low four bits, the sequence number above them
abbrev pub sequence_control : ℕ → List ℕ
sequence_control sequence = to_le_bytes w16 (16 * sequence)

-- a header: Frame Control, Duration, Address 1, Address 2, Address 3 and Sequence Control
abbrev pub header : FrameControl → List ℕ → List ℕ → List ℕ → ℕ → List ℕ
header control address_1 address_2 address_3 sequence =
    octets_of control ++ duration ++ address_1 ++ address_2 ++ address_3 ++ sequence_control sequence
