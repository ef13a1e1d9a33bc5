-- The frames on the air are put, and then those on the wire.
use Rattle.std.proofs.Common.{ap}
use Rattle.std.specs.Prelude.{codes, flat_map}
use Rattle.text_io.specs.BufferLaws.{Puts-then, Puts-same}
use Rattle.report.specs.Report.{frame_line}
use Rattle.report.proofs.reported.SectionReported.put_frames.Goals as goal

pub returns : goal.returns
returns g c =
    Puts-then
    (Puts-same (ap (flat_map (frame_line (codes "air "))) c.as_slice.ensures) c.put_frames.ensures)
    (Puts-same (ap (flat_map (frame_line (codes "wire "))) c.as_slice-2.ensures) c.put_frames-2.ensures)
