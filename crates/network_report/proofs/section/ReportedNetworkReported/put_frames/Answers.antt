-- The frames on the air are put, and then those on the wire.
use Rattle.std.proofs.Common.{◌++◌, ap}
use Rattle.std.specs.Prelude.{codes, flat_map}
use Rattle.text_io.specs.BufferLaws.{Puts-then, Puts-same}
use Rattle.report.specs.Report.{frame_line}
use Rattle.report.specs.Forms.{Told}
use Rattle.network_report.proofs.section.ReportedNetworkReported.put_frames.Goals as goal

pub returns : goal.returns
returns g c =
    Puts-same
    (ap (λ (t : Told). flat_map (frame_line (codes "air ")) t.air ++ flat_map (frame_line (codes "wire ")) t.wire)
    c.self.view_is)
    (Puts-then c.put_sent_frames.ensures c.put_sent_frames-2.ensures)
