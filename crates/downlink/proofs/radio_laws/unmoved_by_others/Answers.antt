use Rattle.downlink.proofs.RadioRuns.{unmoved}
use Rattle.downlink.proofs.radio_laws.unmoved_by_others.Goals as goal

pub returns : goal.returns
returns c = unmoved
