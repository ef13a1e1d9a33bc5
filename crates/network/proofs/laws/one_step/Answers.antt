use Rattle.network.proofs.AloneLaws.{alone-none, alone-push}
use Rattle.network.proofs.laws.one_step.Goals as goal

pub returns-clause-first : goal.returns-clause-first
returns-clause-first c = alone-none

pub returns-clause-next : goal.returns-clause-next
returns-clause-next c = alone-push
