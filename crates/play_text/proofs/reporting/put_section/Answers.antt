-- The parts are put one after the other.
use Rattle.std.proofs.Common.{ap}
use Rattle.std.specs.Prelude.{codes, flat_map}
use Rattle.report.specs.Report.{frame_line}
use Rattle.text_io.specs.BufferLaws.{Puts-then, Puts-same}
use Rattle.play_text.proofs.reporting.put_section.Goals as goal

pub returns : goal.returns
returns g c =
    let air = Puts-same (ap (flat_map (frame_line (codes "air "))) c.of.ensures) c.put_parts.ensures in
    let wire = Puts-same (ap (flat_map (frame_line (codes "wire "))) c.of-2.ensures) c.put_parts-2.ensures in
    Puts-then (Puts-then (Puts-then c.put_heading.ensures air) wire) c.put_end_line.ensures
