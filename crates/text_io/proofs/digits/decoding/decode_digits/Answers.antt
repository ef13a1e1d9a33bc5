use Rattle.std.proofs.Common.{◌-◌, length, arith}
use Rattle.text_io.proofs.DigitDecoded.{all_read, covered}
use Rattle.text_io.proofs.digits.decoding.decode_digits.Goals as goal

pub returns-then-decode_eight-clause-reads : goal.returns-then-decode_eight-clause-reads
returns-then-decode_eight-clause-reads c =
    let last = length c.args.octets.now - 8 in
    let back = c.decode_eight-then-decode_eight in
    covered c.args.text.now c.decode_eight.new.octets back.new.octets back.result 8 last 8
    (λ k. (c.type_inv.text k).fits)
    (omega arith) (omega arith) (omega arith) (λ k lt. c.if-decode_eight.ensures.reads k (omega arith) (omega arith))
    back.ensures.reads back.ensures.keeps

pub returns-then-decode_four-clause-reads : goal.returns-then-decode_four-clause-reads
returns-then-decode_four-clause-reads c =
    let last = length c.args.octets.now - 4 in
    let back = c.decode_four-then-decode_four in
    covered c.args.text.now c.decode_four.new.octets back.new.octets back.result 4 last 4
    (λ k. (c.type_inv.text k).fits)
    (omega arith) (omega arith) (omega arith) (λ k lt. c.if-decode_four.ensures.reads k (omega arith) (omega arith))
    back.ensures.reads back.ensures.keeps

pub returns-clause-all : goal.returns-clause-all
returns-clause-all c digits =
    let octets = all_read c.args.text.now (length c.args.octets.now) c.requires digits in
    let value = rw octets.1 at c.decode_to_slice.ensures.value in
    rw value.0 at c.is_ok.ensures.value
