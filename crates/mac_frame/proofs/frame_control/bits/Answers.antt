use Rattle.std.proofs.Common.{ap, ◌∙◌, ◌-◌, ◌/◌, ◌^◌, bit_and}
use Rattle.std.proofs.lemmas.Nat.{and_mask, one_shl}
use Rattle.mac_frame.proofs.frame_control.bits.Goals as goal

pub returns-clause-value : goal.returns-clause-value
returns-clause-value c =
    let shifted = c.args.number / 2 ^ c.args.low in
    ap (λ power. bit_and shifted (power - 1)) (one_shl c.args.count 16 c.requires.count) ∙ and_mask shifted c.args.count
