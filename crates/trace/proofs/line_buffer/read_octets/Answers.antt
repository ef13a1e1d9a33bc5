use Rattle.trace.proofs.DigitTexts.{spelled_front}
use Rattle.trace.proofs.line_buffer.read_octets.Goals as goal

pub returns-then-read_digits : goal.returns-then-read_digits
returns-then-read_digits c = spelled_front c.args.text.now c.read_digits.new.memory _ c.if-read_digits.ensures.read c.if-read_digits.ensures.few
