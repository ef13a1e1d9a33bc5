use Rattle.downlink.proofs.RadioReceivers.{keeps_order}
use Rattle.downlink.proofs.radio_laws.radio_keeps_order.Goals as goal

pub returns : goal.returns
returns c = keeps_order
