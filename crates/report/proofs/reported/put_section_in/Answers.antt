-- The parts are put one after the other.
use Rattle.std.proofs.Common.{sym, append_assoc}
use Rattle.std.specs.Prelude.{codes, flat_map}
use Rattle.text_io.specs.BufferLaws.{Puts-then, Puts-same}
use Rattle.report.specs.Report.{frame_line}
use Rattle.report.specs.Forms.{Told, heading_in}
use Rattle.report.proofs.reported.put_section_in.Goals as goal

pub returns : goal.returns
returns g c =
    let told : Told = g.R.Reported.told c.args.network.now in
    let parted =
    append_assoc (heading_in g.F.LineForm.written told) (flat_map (frame_line (codes "air ")) told.air)
    (flat_map (frame_line (codes "wire ")) told.wire) in
    Puts-then (Puts-same (sym parted) (Puts-then c.put_heading_in.ensures c.put_frames.ensures))
    c.put_end_line_in.ensures
