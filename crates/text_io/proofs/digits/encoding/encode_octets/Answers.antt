use Rattle.std.proofs.Common.{◌-◌, length, arith}
use Rattle.text_io.proofs.DigitEncoded.{all_encoded}
use Rattle.text_io.proofs.digits.encoding.encode_octets.Goals as goal

pub returns-then-len-ge8 : goal.returns-then-len-ge8
returns-then-len-ge8 c =
    let last = length c.args.octets.now - 8 in
    let front = c.encode_eight in
    let back = c.encode_eight-then-len-ge8 in
    all_encoded c.args.octets.now front.new.text back.new.text 8 last 8
    (omega arith) (omega arith) (omega arith) (λ k lt. front.ensures.spells k (omega arith) (omega arith))
    back.ensures.spells back.ensures.keeps

pub returns-then-len-ge4 : goal.returns-then-len-ge4
returns-then-len-ge4 c =
    let last = length c.args.octets.now - 4 in
    let front = c.encode_four in
    let back = c.encode_four-then-len-ge4 in
    all_encoded c.args.octets.now front.new.text back.new.text 4 last 4
    (omega arith) (omega arith) (omega arith) (λ k lt. front.ensures.spells k (omega arith) (omega arith))
    back.ensures.spells back.ensures.keeps
