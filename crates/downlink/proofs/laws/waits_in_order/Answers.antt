use Rattle.downlink.proofs.Waits.{waits_in_order}
use Rattle.downlink.proofs.laws.waits_in_order.Goals as goal

pub returns : goal.returns
returns c = waits_in_order
