use Rattle.network_report.proofs.SectionLaws.{text_of_one, text_of_all}
use Rattle.network_report.proofs.laws.as_sections.Goals as goal

pub returns-clause-one : goal.returns-clause-one
returns-clause-one c = text_of_one

pub returns-clause-all : goal.returns-clause-all
returns-clause-all c = text_of_all
