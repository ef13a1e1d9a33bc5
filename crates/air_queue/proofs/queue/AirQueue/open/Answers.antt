use Rattle.air_queue.proofs.RuleSteps.{begins}
use Rattle.air_queue.proofs.queue.AirQueue.open.Goals as goal

pub ruled-requires-clause-rule : goal.ruled-requires-clause-rule
ruled-requires-clause-rule c = begins
