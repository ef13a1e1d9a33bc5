use Rattle.downlink.proofs.RadioReceivers.{receiver_alone_in_radio}
use Rattle.downlink.proofs.radio_laws.each_receiver_alone_in_radio.Goals as goal

pub returns : goal.returns
returns c = receiver_alone_in_radio
