use Rattle.elements.proofs.Walk.{same_elements, elements_of_elements, IsElements-from_read}
use Rattle.elements.proofs.element.one_list.Goals as goal

pub returns-clause-unique : goal.returns-clause-unique
returns-clause-unique c = same_elements

pub returns-clause-read : goal.returns-clause-read
returns-clause-read c = elements_of_elements

pub returns-clause-found : goal.returns-clause-found
returns-clause-found c = IsElements-from_read
