-- The parts, the digits and LF are put, one after the other.
use Rattle.text_io.specs.BufferLaws.{Puts-then}
use Rattle.report.proofs.form.AsTextLineForm.put_digits_line.Goals as goal

pub returns : goal.returns
returns g c = Puts-then (Puts-then c.put_parts.ensures c.put_digits.ensures) c.put.ensures
