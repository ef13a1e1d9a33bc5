use Rattle.text_files_tests.proofs.EndingLaws.{answers_by}
use Rattle.text_files_tests.proofs.forms.live_listed.Goals as goal

pub returns : goal.returns
returns g c = answers_by _ _ _ _ _ _ (rw c.new-system.ensures at c.answer_input.ensures.ends)
