-- A Frame Control that is written is read again.
use Rattle.std.proofs.Common.{◌≡◌, ℕ, ◌^◌, ◌<◌, Bool, true, false, ◌==◌, ap, ◌∙◌, arith}
use Rattle.std.specs.Int.{from_bool}
use Rattle.std.proofs.lemmas.Nat.{from_le_bytes-to_le_bytes_2}
use Rattle.mac_frame.specs.FrameControl.{type_number, type_of, bits, has_bit, control_in, control_of, number_of}
use Rattle.mac_frame.specs.FrameControl.{octets_of}
use Rattle.mac_frame.specs.declared.frame_control.FrameControl.{FrameControl}
use Rattle.mac_frame.proofs.FrameTypes.{type_of-type_number, type_number_fits}

is_bit : (b : Bool) → from_bool b < 2
is_bit true = omega arith
is_bit false = omega arith

-- the test of a bit
has_bit_is : (b : Bool) (number place : ℕ) → bits number place 1 ≡ from_bool b → has_bit number place ≡ b
has_bit_is true number place e = ap (λ n. n == 1) e
has_bit_is false number place e = ap (λ n. n == 1) e

-- each field has its bits of the number for itself
module _ (c : FrameControl) (version : c.version < 4) (subtype : c.subtype < 16) where
  number_fits : number_of c < 2 ^ 16
  number_fits = omega (arith, is_bit, type_number_fits)

  control_in-number_of : control_in (number_of c) ≡ c
  control_in-number_of =
      let n = number_of c in
      let version_is : bits n 0 2 ≡ c.version = omega (arith, is_bit, type_number_fits) in
      let type_bits : bits n 2 2 ≡ type_number c.kind = omega (arith, is_bit, type_number_fits) in
      let kind_is : type_of (bits n 2 2) ≡ c.kind = ap type_of type_bits ∙ type_of-type_number c.kind in
      let subtype_is : bits n 4 4 ≡ c.subtype = omega (arith, is_bit, type_number_fits) in
      λ i. record {
        version = version_is i;
        kind = kind_is i;
        subtype = subtype_is i;
        to_ds = has_bit_is c.to_ds n 8 (omega (arith, is_bit, type_number_fits)) i;
        from_ds = has_bit_is c.from_ds n 9 (omega (arith, is_bit, type_number_fits)) i;
        more_fragments = has_bit_is c.more_fragments n 10 (omega (arith, is_bit, type_number_fits)) i;
        retry = has_bit_is c.retry n 11 (omega (arith, is_bit, type_number_fits)) i;
        power_management = has_bit_is c.power_management n 12 (omega (arith, is_bit, type_number_fits)) i;
        more_data = has_bit_is c.more_data n 13 (omega (arith, is_bit, type_number_fits)) i;
        protected = has_bit_is c.protected n 14 (omega (arith, is_bit, type_number_fits)) i;
        order = has_bit_is c.order n 15 (omega (arith, is_bit, type_number_fits)) i;
      }

-- what was written is read again
pub control_of-octets_of : (c : FrameControl) → c.version < 4 → c.subtype < 16 → control_of (octets_of c) ≡ c
control_of-octets_of c version subtype =
    ap control_in (from_le_bytes-to_le_bytes_2 (number_of c) (number_fits c version subtype))
    ∙ control_in-number_of c version subtype
