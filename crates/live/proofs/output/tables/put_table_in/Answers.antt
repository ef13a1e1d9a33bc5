use Rattle.std.proofs.Common.{ap}
use Rattle.text_io.specs.BufferLaws.{Puts-same}
use Rattle.report.specs.Forms.{section_in}
use Rattle.live.proofs.output.tables.put_table_in.Goals as goal

pub returns : goal.returns
returns g c = Puts-same (ap (section_in g.F.LineForm.written) c.without_frames.ensures) c.put_section_in.ensures
