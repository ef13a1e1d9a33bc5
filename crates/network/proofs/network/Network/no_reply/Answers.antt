use Rattle.std.proofs.Common.{ap, arith}
use Rattle.network.specs.declared.reply.Reply.{Reply}
use Rattle.network.proofs.network.Network.no_reply.Goals as goal

pub returns-clause-sequence : goal.returns-clause-sequence
returns-clause-sequence c = omega (arith, ap (λ (r : Reply). r.sequence) c.new.ensures, c.sequence.ensures.bounded)
