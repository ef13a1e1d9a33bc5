use Rattle.std.proofs.Common.{ap}
use Rattle.text_io.specs.BufferLaws.{Puts-same}
use Rattle.report.specs.Forms.{as_text, heading_in}
use Rattle.network_report.proofs.section.put_heading.Goals as goal

pub returns : goal.returns
returns g c = Puts-same (ap (heading_in as_text) c.of.ensures) c.put_heading_in.ensures
