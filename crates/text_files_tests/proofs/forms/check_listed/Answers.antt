use Rattle.text_files_tests.proofs.EndingLaws.{checks_by}
use Rattle.text_files_tests.proofs.forms.check_listed.Goals as goal

pub returns : goal.returns
returns g c = checks_by _ _ _ _ _ (rw c.new-system.ensures at c.check_file.ensures.ends)
