use Rattle.downlink.proofs.InOrder.{is_in_order}
use Rattle.downlink.proofs.laws.in_order.Goals as goal

pub returns : goal.returns
returns c = is_in_order
