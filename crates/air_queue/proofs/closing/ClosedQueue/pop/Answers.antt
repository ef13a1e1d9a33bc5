use Rattle.air_queue.proofs.Closings.{popped}
use Rattle.air_queue.proofs.closing.ClosedQueue.pop.Goals as goal

pub returns-clause-left : goal.returns-clause-left
returns-clause-left g c = popped _ _ _ c.pop_from.result c.self.invariant.1 c.self.view_is c.pop_from.ensures.left
