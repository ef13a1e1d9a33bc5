-- A type is the one that a test says, and a type that is written is read again.
use Rattle.std.proofs.Common.{◌≡◌, ◌<◌, true, refl, arith}
use Rattle.std.proofs.lemmas.Bool.{false≢true}
use Rattle.mac_frame.specs.FrameControl.{type_number, type_of, is_management, is_control, is_data}
use Rattle.mac_frame.specs.declared.frame_control.FrameType.{FrameType}
use Rattle.mac_frame.specs.declared.frame_control.FrameType.TheVariants.{Management, Control, Data}

pub type_of-type_number : (type : FrameType) → type_of (type_number type) ≡ type
type_of-type_number Management = refl
type_of-type_number _ = refl

-- a type has two bits
pub type_number_fits : (type : FrameType) → type_number type < 4
type_number_fits Management = omega arith
type_number_fits _ = omega arith

pub where_is_management : (type : FrameType) → is_management type ≡ true → type ≡ Management
where_is_management Management h = refl
where_is_management _ h = absurd (false≢true h)

pub where_is_control : (type : FrameType) → is_control type ≡ true → type ≡ Control
where_is_control Control h = refl
where_is_control _ h = absurd (false≢true h)

pub where_is_data : (type : FrameType) → is_data type ≡ true → type ≡ Data
where_is_data Data h = refl
where_is_data _ h = absurd (false≢true h)
