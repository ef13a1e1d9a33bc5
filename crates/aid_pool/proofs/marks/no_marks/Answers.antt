use Rattle.std.proofs.Common.{arith}
use Rattle.aid_pool.proofs.Words.{number_0, only_number_0}
use Rattle.aid_pool.proofs.marks.no_marks.Goals as goal

pub returns-clause-reserved : goal.returns-clause-reserved
returns-clause-reserved c = number_0 32 (omega arith)

pub returns-clause-others : goal.returns-clause-others
returns-clause-others c = λ n some. only_number_0 32 n (omega arith) some
