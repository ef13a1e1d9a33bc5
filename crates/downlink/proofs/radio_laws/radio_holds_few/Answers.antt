use Rattle.downlink.proofs.RadioReceivers.{holds_few}
use Rattle.downlink.proofs.radio_laws.radio_holds_few.Goals as goal

pub returns : goal.returns
returns c = holds_few
