use Rattle.air_queue.proofs.Takings.{radio_with}
use Rattle.air_queue.proofs.RuleSteps.{pops, learns}
use Rattle.air_queue.proofs.queue.pop_from.Goals as goal

pub pop_as-requires-clause-rule : goal.pop_as-requires-clause-rule
pop_as-requires-clause-rule g c = (pops _ _ _ (radio_with _ c.requires.radio), learns _ _ _ (radio_with _ c.requires.radio))
