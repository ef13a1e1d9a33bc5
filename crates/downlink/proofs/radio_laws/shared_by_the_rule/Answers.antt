use Rattle.downlink.proofs.RadioRuns.{by_the_rule}
use Rattle.downlink.proofs.radio_laws.shared_by_the_rule.Goals as goal

pub returns : goal.returns
returns c = by_the_rule
