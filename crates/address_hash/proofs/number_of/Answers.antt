use Rattle.std.proofs.Common.{◌≡◌, ℕ, suc, ◌-◌, ◌∷◌, drop, get_or, bit_xor, sym, ap, ◌∙◌, arith, drop-cons}
use Rattle.std.proofs.Math.Seq.{drop-length}
use Rattle.std.specs.Int.{w64, rotate_left}
use Rattle.address_hash.specs.AddressHash.{gathered, number_of}
use Rattle.address_hash.proofs.number_of.Goals as goal

pub loop-left-init : goal.loop-left-init
unfolding number_of
loop-left-init c = (omega arith, sym (ap number_of (drop-length c.args.bytes.now)))

pub loop-left-preserved : goal.loop-left-preserved
unfolding number_of
loop-left-preserved c =
    let bytes = c.args.bytes.now in
    let left : ℕ = c.loop-left.left in
    let here : suc (left - 1) ≡ left = omega arith in
    let octets = drop-cons bytes (left - 1) 0 (omega (arith, c.loop-left.invariant.0)) ∙ ap (λ n. get_or bytes (left - 1) 0 ∷ drop n bytes) here in (
      omega (arith, c.loop-left.invariant.0),
      ap (λ n. bit_xor n c.from.result) (c.rotate_left.ensures ∙ ap (λ n. rotate_left w64 n 8) c.loop-left.invariant.1)
          ∙ ap (gathered (number_of (drop left bytes))) c.from.ensures
          ∙ sym (ap number_of octets),
    )
