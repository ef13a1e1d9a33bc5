use Rattle.events.proofs.Items.{items_of-append, items_of-same, items_of-other}
use Rattle.events.proofs.laws.own_frames.Goals as goal

pub returns-clause-append : goal.returns-clause-append
returns-clause-append c = items_of-append

pub returns-clause-same : goal.returns-clause-same
returns-clause-same c = items_of-same

pub returns-clause-other : goal.returns-clause-other
returns-clause-other c = items_of-other
