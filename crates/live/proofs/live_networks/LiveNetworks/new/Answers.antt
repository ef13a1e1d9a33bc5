use Rattle.live.proofs.AnswerSteps.{moment-first}
use Rattle.live.proofs.live_networks.LiveNetworks.new.Goals as goal

pub invariant_of-result : goal.invariant_of-result
invariant_of-result c = moment-first c.args.config _ c.in_ok-open.ensures
