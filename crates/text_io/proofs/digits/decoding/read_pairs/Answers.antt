use Rattle.std.proofs.Common.{◌++◌}
use Rattle.text_io.proofs.DigitPairLanes.{all_pairs, length-octets_l, pairs_read}
use Rattle.text_io.proofs.digits.decoding.read_pairs.Goals as goal

pub returns-clause-len : goal.returns-clause-len
returns-clause-len c =
    let high = c.digit_values-high in
    let low = c.digit_values-low in
    length-octets_l high.result low.result high.ensures.len low.ensures.len

pub returns-clause-reads : goal.returns-clause-reads
returns-clause-reads c =
    let high = c.digit_values-high in
    let low = c.digit_values-low in
    pairs_read (c.args.front ++ c.args.back) high.result low.result c.are_values.result high.ensures.len low.ensures.len
    high.ensures.value low.ensures.value c.are_values.ensures.high c.are_values.ensures.low

pub returns-clause-all : goal.returns-clause-all
returns-clause-all c =
    all_pairs (c.args.front ++ c.args.back) c.digit_values-high.result c.digit_values-low.result c.are_values.result
    c.digit_values-high.ensures.digit c.digit_values-low.ensures.digit c.are_values.ensures.all
