use Rattle.downlink.proofs.RadioRuns.{radio_alone}
use Rattle.downlink.proofs.radio_laws.alone.Goals as goal

pub returns : goal.returns
returns c = radio_alone
