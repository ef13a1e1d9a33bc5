use Rattle.downlink.proofs.RadioRuns.{radio_fair}
use Rattle.downlink.proofs.radio_laws.fair.Goals as goal

pub returns : goal.returns
returns c = radio_fair c.bounded.ensures
