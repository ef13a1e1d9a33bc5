use Rattle.downlink.proofs.RadioReceivers.{loses_nothing}
use Rattle.downlink.proofs.radio_laws.radio_loses_nothing.Goals as goal

pub returns : goal.returns
returns c = loses_nothing
