use Rattle.downlink.proofs.NetworkSteps.{receiver_alone}
use Rattle.downlink.proofs.network_laws.each_receiver_alone.Goals as goal

pub returns : goal.returns
returns c = receiver_alone
