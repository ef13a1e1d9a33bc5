use Rattle.downlink.proofs.RadioRuns.{made_one_by_one}
use Rattle.downlink.proofs.radio_laws.made_one_by_one.Goals as goal

pub returns : goal.returns
returns c = made_one_by_one
