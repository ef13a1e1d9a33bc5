use Rattle.std.proofs.Common.{◌-◌, length, arith}
use Rattle.text_io.proofs.DigitDecoded.{covered}
use Rattle.text_io.proofs.digits.decoding.decode_blocks.Goals as goal

pub returns-clause-reads : goal.returns-clause-reads
returns-clause-reads c =
    let last = length c.args.octets.now - 16 in
    let back = c.decode_sixteen-2 in
    covered c.args.text.now c.loop-at.octets back.new.octets back.result c.loop-at.at last 16
    (λ k. (c.type_inv.text k).fits)
    (omega arith) (omega arith) c.loop-at-test.false c.loop-at.invariant back.ensures.reads back.ensures.keeps
