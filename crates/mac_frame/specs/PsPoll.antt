-- PS-Poll frames (IEEE Std 802.11-2016, 9.3.1.5), with which a station in power save mode asks for what is kept for it.
-- Their header has 16 octets, and no Sequence Control.
use Rattle.std.specs.Prelude.{ℕ, ◌≡◌, ◌≢◌, Bool, false, not, ◌==◌, ◌&&◌, List, ◌++◌, length, take, drop, Result}
use Rattle.std.specs.Int.{w16, from_le_bytes}
use Rattle.mac_frame.specs.Address.{is_group}
use Rattle.mac_frame.specs.FrameControl.{is_control, bits, control_of, has_refused_flags, has_direction}
use Rattle.mac_frame.specs.Header.{control_at, address_at, is_from_station, is_to_network, unless_faulty}
use Rattle.mac_frame.specs.Rx.{Frame, Poll}
use Rattle.mac_frame.specs.declared.frame.Unread.{Unread}
use Rattle.mac_frame.specs.declared.frame_control.FrameControl.{FrameControl}
use Rattle.mac_frame.specs.declared.frame_control.FrameType.TheVariants as types

-- its subtype (9.2.4.1.3)
abbrev pub ps_poll_subtype : ℕ
ps_poll_subtype = 10

-- AID (9.4.1.8): the low 14 bits, whatever the two high ones are (profile)
abbrev pub aid_of : List ℕ → ℕ
aid_of aid = bits (from_le_bytes w16 aid) 0 14

-- ---- heard, as a relation

-- its fields in their order, and the octets that follow them, which are ignored (profile)
pub record PollFields : Type 0 where
  pub control : List ℕ
  pub aid : List ℕ
  pub bssid : List ℕ
  pub transmitter : List ℕ
  pub rest : List ℕ

abbrev pub spelled_poll : PollFields → List ℕ
spelled_poll f = f.control ++ f.aid ++ f.bssid ++ f.transmitter ++ f.rest

-- The string is a PS-Poll frame from a station to the network, with these fields.
pub record IsPolled (bss x : List ℕ) (f : PollFields) : Type 0 where
  pub string : x ≡ spelled_poll f
  pub control : length f.control ≡ 2
  pub aid : length f.aid ≡ 2
  pub bssid : length f.bssid ≡ 6
  pub transmitter : length f.transmitter ≡ 6
  pub version : (control_of f.control).version ≡ 0
  pub type : (control_of f.control).kind ≡ types.Control
  pub subtype : (control_of f.control).subtype ≡ ps_poll_subtype
  pub to_ds : (control_of f.control).to_ds ≡ false
  pub from_ds : (control_of f.control).from_ds ≡ false
  pub more_fragments : (control_of f.control).more_fragments ≡ false
  pub protected : (control_of f.control).protected ≡ false
  pub order : (control_of f.control).order ≡ false
  pub to_network : f.bssid ≡ bss
  pub from_station : is_group f.transmitter ≡ false
  pub from_another : f.transmitter ≢ bss

-- what is told of a PS-Poll frame, by its fields
pub record IsPsPoll (bss x from : List ℕ) (aid : ℕ) : Type 0 where
  pub fields : PollFields
  pub polled : IsPolled bss x fields
  pub from_is : from ≡ fields.transmitter
  pub aid_is : aid ≡ aid_of fields.aid

-- ---- heard, as a function

-- a control frame that is read
abbrev pub is_ps_poll_read : FrameControl → Bool
is_ps_poll_read c = is_control c.kind && c.subtype == ps_poll_subtype

-- the identifier at its place
abbrev pub aid_at : List ℕ → ℕ
aid_at x = aid_of (take 2 (drop 2 x))

-- what the octets tell at their places: BSSID and transmitter stand where Address 1 and Address 2 do
abbrev pub poll_at : List ℕ → Frame
poll_at x = Poll (address_at x 10) (aid_at x)

-- the PS-Poll frame that a string is for the network, or its first fault after that of its kind
abbrev pub ps_poll_of : List ℕ → List ℕ → Result Frame Unread
ps_poll_of bss x =
    unless_faulty (has_refused_flags (control_at x)) (has_direction (control_at x))
    (not (is_from_station bss x && is_to_network bss x))
    false (poll_at x)
