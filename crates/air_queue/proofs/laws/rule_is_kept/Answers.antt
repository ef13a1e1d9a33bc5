use Rattle.air_queue.proofs.RuleSteps.{begins, gives, pushes, pops, learns}
use Rattle.air_queue.proofs.Takings.{takes}
use Rattle.air_queue.proofs.laws.rule_is_kept.Goals as goal

pub returns-clause-made : goal.returns-clause-made
returns-clause-made c = begins

pub returns-clause-given : goal.returns-clause-given
returns-clause-given c = gives

pub returns-clause-pushed : goal.returns-clause-pushed
returns-clause-pushed c = pushes

pub returns-clause-popped : goal.returns-clause-popped
returns-clause-popped c = pops

pub returns-clause-taken_in : goal.returns-clause-taken_in
returns-clause-taken_in c = takes

pub returns-clause-learned : goal.returns-clause-learned
returns-clause-learned c = learns
