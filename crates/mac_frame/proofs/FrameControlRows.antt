-- Frame Controls on which the definitions are computed.
use Rattle.std.proofs.Common.{◌≡◌, true, [], ◌∷◌, refl}
use Rattle.mac_frame.specs.FrameControl.{control_of, octets_of, plain}
use Rattle.mac_frame.specs.declared.frame_control.FrameType.TheVariants.{Management, Control, Data, Extension}
use Rattle.mac_frame.proofs.Rows.{Computes}

-- read, one field at a time
pub what_is_read : Computes control_of (
    ("a probe request", 0x40 ∷ 0x00 ∷ [], plain Management 4)
    ∷ ("a PS-Poll", 0xa4 ∷ 0x00 ∷ [], plain Control 10)
    ∷ ("a null", 0x48 ∷ 0x00 ∷ [], plain Data 4)
    ∷ ("type 3", 0x0c ∷ 0x00 ∷ [], plain Extension 0)
    ∷ ("the lowest bits", 0x03 ∷ 0x00 ∷ [], record (plain Management 0) { version = 3 })
    ∷ ("bit 8", 0x00 ∷ 0x01 ∷ [], record (plain Management 0) { to_ds = true })
    ∷ ("bit 9", 0x00 ∷ 0x02 ∷ [], record (plain Management 0) { from_ds = true })
    ∷ ("bit 10", 0x00 ∷ 0x04 ∷ [], record (plain Management 0) { more_fragments = true })
    ∷ ("bit 11", 0x00 ∷ 0x08 ∷ [], record (plain Management 0) { retry = true })
    ∷ ("bit 12", 0x00 ∷ 0x10 ∷ [], record (plain Management 0) { power_management = true })
    ∷ ("bit 13", 0x00 ∷ 0x20 ∷ [], record (plain Management 0) { more_data = true })
    ∷ ("bit 14", 0x00 ∷ 0x40 ∷ [], record (plain Management 0) { protected = true })
    ∷ ("bit 15", 0x00 ∷ 0x80 ∷ [], record (plain Management 0) { order = true })
    ∷ [])
what_is_read = refl

-- ---- written

pub a_probe_response_is_50_00 : octets_of (plain Management 5) ≡ 0x50 ∷ 0x00 ∷ []
a_probe_response_is_50_00 = refl

pub data_from_the_access_point_with_more_data_is_08_22 :
    octets_of (record (plain Data 0) { from_ds = true; more_data = true }) ≡ 0x08 ∷ 0x22 ∷ []
data_from_the_access_point_with_more_data_is_08_22 = refl

pub every_bit_is_written :
    octets_of (record {
      version = 3;
      kind = Extension;
      subtype = 15;
      to_ds = true;
      from_ds = true;
      more_fragments = true;
      retry = true;
      power_management = true;
      more_data = true;
      protected = true;
      order = true;
    }) ≡ 0xff ∷ 0xff ∷ []
every_bit_is_written = refl
