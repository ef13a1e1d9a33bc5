use Rattle.report.specs.Report.{section_text}
use Rattle.report.proofs.sections.SectionsPutItemSection.put.Goals as goal

pub returns : goal.returns
unfolding section_text
returns g c = c.put_section_in.ensures
