use Rattle.air_queue.proofs.Takings.{takes}
use Rattle.air_queue.proofs.ending.take_pass.Goals as goal

pub absorb-requires-clause-rule : goal.absorb-requires-clause-rule
absorb-requires-clause-rule c = takes _ _ _ _ _ c.requires.radio c.net.invariant.1
