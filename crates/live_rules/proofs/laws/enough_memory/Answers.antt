use Rattle.live_rules.proofs.EnoughMemory.{answers-only, answers-may, answers-unrefused}
use Rattle.live_rules.proofs.laws.enough_memory.Goals as goal

pub returns-clause-only : goal.returns-clause-only
returns-clause-only c = answers-only

pub returns-clause-some : goal.returns-clause-some
returns-clause-some c = answers-may

pub returns-clause-unrefused : goal.returns-clause-unrefused
returns-clause-unrefused c = answers-unrefused
