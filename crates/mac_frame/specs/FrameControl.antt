-- Frame Control (IEEE Std 802.11-2016, 9.2.4.1), the first field of every frame: its two octets as one number, of
-- which the first octet is the low one, and the fields that stand in it.
use Rattle.std.specs.Prelude.{ℕ, ◌+◌, ◌*◌, ◌/◌, ◌%◌, ◌^◌, Bool, true, false, not, ◌==◌, ◌&&◌, ◌||◌, List, if◌then◌else◌}
use Rattle.std.specs.Int.{w16, from_bool, from_le_bytes, to_le_bytes}
use Rattle.mac_frame.specs.declared.frame_control.FrameControl.{FrameControl}
use Rattle.mac_frame.specs.declared.frame_control.FrameType.{FrameType}
use Rattle.mac_frame.specs.declared.frame_control.FrameType.TheVariants.{Management, Control, Data, Extension}

-- ---- types (9.2.4.1.3)

-- the number that the two bits of a type are
abbrev pub type_number : FrameType → ℕ
type_number Management = 0
type_number Control = 1
type_number Data = 2
type_number Extension = 3

-- the type of two bits
abbrev pub type_of : ℕ → FrameType
type_of number =
    if number == 0 then Management
    else if number == 1 then Control
    else if number == 2 then Data
    else Extension

-- the type is this one
abbrev pub is_management : FrameType → Bool
is_management Management = true
is_management Control = false
is_management Data = false
is_management Extension = false

abbrev pub is_control : FrameType → Bool
is_control Management = false
is_control Control = true
is_control Data = false
is_control Extension = false

abbrev pub is_data : FrameType → Bool
is_data Management = false
is_data Control = false
is_data Data = true
is_data Extension = false

-- ---- the table: the lowest bit of each field, and how many it has where that is not one (9.2.4.1.1)

abbrev pub version_bit : ℕ
version_bit = 0

abbrev pub version_width : ℕ
version_width = 2

abbrev pub type_bit : ℕ
type_bit = 2

abbrev pub type_width : ℕ
type_width = 2

abbrev pub subtype_bit : ℕ
subtype_bit = 4

abbrev pub subtype_width : ℕ
subtype_width = 4

abbrev pub to_ds_bit : ℕ
to_ds_bit = 8

abbrev pub from_ds_bit : ℕ
from_ds_bit = 9

abbrev pub more_fragments_bit : ℕ
more_fragments_bit = 10

abbrev pub retry_bit : ℕ
retry_bit = 11

abbrev pub power_management_bit : ℕ
power_management_bit = 12

abbrev pub more_data_bit : ℕ
more_data_bit = 13

abbrev pub protected_frame_bit : ℕ
protected_frame_bit = 14

abbrev pub order_bit : ℕ
order_bit = 15

-- ---- read

-- the bits of a number from `low` on, as many as `count`
abbrev pub bits : ℕ → ℕ → ℕ → ℕ
bits number low count = number / 2 ^ low % 2 ^ count

-- a bit of a number is 1
abbrev pub has_bit : ℕ → ℕ → Bool
has_bit number place = bits number place 1 == 1

-- the fields of a number
abbrev pub control_in : ℕ → FrameControl
control_in number = record {
  version = bits number version_bit version_width;
  kind = type_of (bits number type_bit type_width);
  subtype = bits number subtype_bit subtype_width;
  to_ds = has_bit number to_ds_bit;
  from_ds = has_bit number from_ds_bit;
  more_fragments = has_bit number more_fragments_bit;
  retry = has_bit number retry_bit;
  power_management = has_bit number power_management_bit;
  more_data = has_bit number more_data_bit;
  protected = has_bit number protected_frame_bit;
  order = has_bit number order_bit;
}

-- the Frame Control of its two octets
abbrev pub control_of : List ℕ → FrameControl
control_of octets = control_in (from_le_bytes w16 octets)

-- a fragment that others follow, a protected frame, or one with an HT Control field
abbrev pub has_refused_flags : FrameControl → Bool
has_refused_flags c = c.more_fragments || c.protected || c.order

-- to the distribution system, or from it (9.2.4.1.4)
abbrev pub has_direction : FrameControl → Bool
has_direction c = c.to_ds || c.from_ds

-- to the distribution system, and not from it
abbrev pub is_to_ds : FrameControl → Bool
is_to_ds c = c.to_ds && not c.from_ds

-- ---- written

-- the number of the fields, each at its place
abbrev pub number_of : FrameControl → ℕ
number_of c =
    c.version * 2 ^ version_bit + type_number c.kind * 2 ^ type_bit + c.subtype * 2 ^ subtype_bit
    + from_bool c.to_ds * 2 ^ to_ds_bit
    + from_bool c.from_ds * 2 ^ from_ds_bit
    + from_bool c.more_fragments * 2 ^ more_fragments_bit
    + from_bool c.retry * 2 ^ retry_bit
    + from_bool c.power_management * 2 ^ power_management_bit
    + from_bool c.more_data * 2 ^ more_data_bit
    + from_bool c.protected * 2 ^ protected_frame_bit
    + from_bool c.order * 2 ^ order_bit

-- the two octets of a Frame Control
abbrev pub octets_of : FrameControl → List ℕ
octets_of c = to_le_bytes w16 (number_of c)

-- version 0, a type and a subtype, and every bit after them 0
abbrev pub plain : FrameType → ℕ → FrameControl
plain type subtype = record {
  version = 0;
  kind = type;
  subtype = subtype;
  to_ds = false;
  from_ds = false;
  more_fragments = false;
  retry = false;
  power_management = false;
  more_data = false;
  protected = false;
  order = false;
}
