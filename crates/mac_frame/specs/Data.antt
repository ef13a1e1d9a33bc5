-- Data frames with three addresses (IEEE Std 802.11-2016, 9.3.2.1): those that a station sends to the access point, and
-- the header of one from it.
use Rattle.std.specs.Prelude.{ℕ, ◌≡◌, Bool, true, false, not, ◌==◌, ◌&&◌, ◌||◌, List, drop, Result, if◌then◌else◌}
use Rattle.mac_frame.specs.FrameControl.{is_data, control_of, is_to_ds, plain}
use Rattle.mac_frame.specs.Header.{Fields, IsHeaded, control_at, address_at, is_refused, is_from_station, is_to_network}
use Rattle.mac_frame.specs.Header.{is_too_long, unless_faulty, header}
use Rattle.mac_frame.specs.Rx.{Frame, Msdu, Null}
use Rattle.mac_frame.specs.declared.frame.Unread.{Unread}
use Rattle.mac_frame.specs.declared.frame_control.FrameControl.{FrameControl}
use Rattle.mac_frame.specs.declared.frame_control.FrameType.TheVariants as types

-- ---- subtypes (9.2.4.1.3)

-- Data
abbrev pub data_subtype : ℕ
data_subtype = 0

-- Null (no data)
abbrev pub null_subtype : ℕ
null_subtype = 4

-- ---- heard, as a relation

-- The string is a data frame from a station to the network, to be passed on by it, with these fields: Address 1 is the
-- BSSID, and Address 3, the destination, may be any address.
pub record IsData (bss x : List ℕ) (f : Fields) : Type 0 where
  pub headed : IsHeaded bss x f
  pub type : (control_of f.control).kind ≡ types.Data
  pub to_ds : (control_of f.control).to_ds ≡ true
  pub from_ds : (control_of f.control).from_ds ≡ false
  pub to_network : f.address_1 ≡ bss

-- what is told of a Data frame, by its fields
pub record IsMsdu (bss x from : List ℕ) (doze : Bool) (to body : List ℕ) : Type 0 where
  pub fields : Fields
  pub data_frame : IsData bss x fields
  pub subtype : (control_of fields.control).subtype ≡ data_subtype
  pub from_is : from ≡ fields.address_2
  pub doze_is : doze ≡ (control_of fields.control).power_management
  pub to_is : to ≡ fields.address_3
  pub body_is : body ≡ fields.body

-- what is told of a Null frame, by its fields; its destination and its body are ignored
pub record IsNull (bss x from : List ℕ) (doze : Bool) : Type 0 where
  pub fields : Fields
  pub data_frame : IsData bss x fields
  pub subtype : (control_of fields.control).subtype ≡ null_subtype
  pub from_is : from ≡ fields.address_2
  pub doze_is : doze ≡ (control_of fields.control).power_management

-- ---- heard, as a function

-- a data frame that is read
abbrev pub is_data_read : FrameControl → Bool
is_data_read c = is_data c.kind && (c.subtype == data_subtype || c.subtype == null_subtype)

-- what the octets tell at their places
abbrev pub msdu_at : List ℕ → Frame
msdu_at x = Msdu (address_at x 10) (control_at x).power_management (address_at x 16) (drop 24 x)

abbrev pub null_at : List ℕ → Frame
null_at x = Null (address_at x 10) (control_at x).power_management

-- the data frame that a string is for the network, or its first fault after that of its kind
abbrev pub data_of : List ℕ → List ℕ → Result Frame Unread
data_of bss x =
    unless_faulty (is_refused x) (not (is_to_ds (control_at x))) (not (is_from_station bss x && is_to_network bss x))
    (is_too_long x)
    (if (control_at x).subtype == data_subtype then msdu_at x else null_at x)

-- ---- sent

-- Frame Control of a Data frame from the distribution system, which says whether more is kept for its receiver
abbrev pub data_control : Bool → FrameControl
data_control more = record (plain types.Data data_subtype) { from_ds = true; more_data = more }

-- the header of a Data frame from the access point: Address 1 the destination, Address 2 the BSSID, Address 3 the
-- source
abbrev pub data_header : (to bss source : List ℕ) (sequence : ℕ) (more : Bool) → List ℕ
data_header to bss source sequence more = header (data_control more) to bss source sequence
