-- The word, the digits and LF are put, one after the other.
use Rattle.report.specs.Report.{frame_line}
use Rattle.text_io.specs.BufferLaws.{Puts-then}
use Rattle.report.proofs.lines.put_frame_line.Goals as goal

pub returns : goal.returns
unfolding frame_line
returns g c = Puts-then (Puts-then c.put.ensures c.put_digits.ensures) c.put-2.ensures
