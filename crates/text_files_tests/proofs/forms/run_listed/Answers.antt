use Rattle.text_files_tests.proofs.EndingLaws.{runs_by}
use Rattle.text_files_tests.proofs.forms.run_listed.Goals as goal

pub returns : goal.returns
returns g c = runs_by _ _ _ _ _ _ (rw c.new-system.ensures at c.run_files.ensures)
