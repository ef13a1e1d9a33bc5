use Rattle.live_rules.proofs.IsolationLaws.{alike}
use Rattle.live_rules.proofs.laws.two_inputs.Goals as goal

pub returns : goal.returns
returns c = alike c.isolation.ensures.alone
