use Rattle.downlink.proofs.RadioReceivers.{lets_sleep}
use Rattle.downlink.proofs.radio_laws.radio_lets_sleep.Goals as goal

pub returns : goal.returns
returns c = lets_sleep
