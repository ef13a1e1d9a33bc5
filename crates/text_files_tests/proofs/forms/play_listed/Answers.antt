use Rattle.text_files_tests.proofs.EndingLaws.{plays_by}
use Rattle.text_files_tests.proofs.forms.play_listed.Goals as goal

pub returns : goal.returns
returns g c = plays_by _ _ _ _ _ (rw c.new-system.ensures at c.play_files.ensures.ends)
