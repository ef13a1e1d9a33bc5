use Rattle.tim.proofs.Laws.{tim_octets_show, one_string, one_meaning, same_tim}
use Rattle.tim.proofs.element.one_tim.Goals as goal

pub returns-clause-shows : goal.returns-clause-shows
returns-clause-shows c = tim_octets_show

pub returns-clause-string : goal.returns-clause-string
returns-clause-string c = one_string

pub returns-clause-values : goal.returns-clause-values
returns-clause-values c = one_meaning

pub returns-clause-same : goal.returns-clause-same
returns-clause-same c = same_tim
