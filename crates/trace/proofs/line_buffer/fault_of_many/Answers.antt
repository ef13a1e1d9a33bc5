use Rattle.std.proofs.Common.{arith}
use Rattle.trace.proofs.DigitTexts.{look_even, look_first}
use Rattle.trace.proofs.line_buffer.fault_of_many.Goals as goal

pub loop-rest-preserved-else-not-is_digit : goal.loop-rest-preserved-else-not-is_digit
loop-rest-preserved-else-not-is_digit c =
    look_first c.args.text.now c.loop-rest.rest.now c.loop-rest.is_odd c.loop-rest.invariant c.in-len1-up.len_at_least
    c.if-character-ne32.true
    (cc (c.is_digit.ensures, c.if-not-is_digit.false))

pub returns : goal.returns
returns c =
    look_even c.args.text.now c.loop-rest.rest.now c.loop-rest.is_odd c.loop-rest.invariant
    (omega (arith, c.in_default.len_below))
    c.if-is_odd.false
    c.requires
