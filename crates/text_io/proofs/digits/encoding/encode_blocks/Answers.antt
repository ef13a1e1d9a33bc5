use Rattle.std.proofs.Common.{◌-◌, length, arith}
use Rattle.text_io.proofs.DigitEncoded.{all_encoded}
use Rattle.text_io.proofs.digits.encoding.encode_blocks.Goals as goal

pub returns : goal.returns
returns c =
    let last = length c.args.octets.now - 16 in
    let back = c.encode_sixteen-2 in
    all_encoded c.args.octets.now c.loop-at.text back.new.text c.loop-at.at last 16
    (omega arith) (omega arith) c.loop-at-test.false c.loop-at.invariant back.ensures.spells back.ensures.keeps
