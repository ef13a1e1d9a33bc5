use Rattle.downlink.proofs.RadioReceivers.{doubles_nothing}
use Rattle.downlink.proofs.radio_laws.radio_doubles_nothing.Goals as goal

pub returns : goal.returns
returns c = doubles_nothing
