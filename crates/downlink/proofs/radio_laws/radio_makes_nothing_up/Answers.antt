use Rattle.downlink.proofs.RadioReceivers.{makes_nothing_up}
use Rattle.downlink.proofs.radio_laws.radio_makes_nothing_up.Goals as goal

pub returns : goal.returns
returns c = makes_nothing_up
