use Rattle.std.proofs.Common.{ap}
use Rattle.text_io.specs.BufferLaws.{Puts-same}
use Rattle.report.specs.Forms.{as_text, section_in}
use Rattle.network_report.proofs.section.put_network.Goals as goal

pub returns : goal.returns
returns g c = Puts-same (ap (section_in as_text) c.of.ensures) c.put_section_in.ensures
