use Rattle.powersave.proofs.Returns.{back_for_one, back_for_others, length-put_back}
use Rattle.powersave.proofs.keep.returns_in_its_place.Goals as goal

pub returns-clause-place : goal.returns-clause-place
returns-clause-place c = back_for_one

pub returns-clause-others : goal.returns-clause-others
returns-clause-others c = back_for_others

pub returns-clause-count : goal.returns-clause-count
returns-clause-count c = length-put_back
