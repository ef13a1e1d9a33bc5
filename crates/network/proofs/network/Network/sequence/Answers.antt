use Rattle.std.proofs.Common.{arith}
use Rattle.network.proofs.network.Network.sequence.Goals as goal

pub returns-clause-bounded : goal.returns-clause-bounded
returns-clause-bounded c = omega (arith, c.self.invariant.sound.sequence)
