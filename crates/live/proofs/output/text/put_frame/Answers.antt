use Rattle.report.specs.Report.{frame_line}
use Rattle.text_io.specs.BufferLaws.{Puts-then}
use Rattle.live.proofs.output.text.put_frame.Goals as goal

pub returns : goal.returns
unfolding frame_line
returns g c =
    Puts-then
    (Puts-then
    (Puts-then (Puts-then (Puts-then c.put.ensures c.put-2.ensures) c.put_address.ensures) c.put-3.ensures)
    c.put_digits.ensures)
    c.put-4.ensures
