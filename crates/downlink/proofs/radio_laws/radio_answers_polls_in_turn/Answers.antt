use Rattle.downlink.proofs.RadioReceivers.{answers_polls_in_turn}
use Rattle.downlink.proofs.radio_laws.radio_answers_polls_in_turn.Goals as goal

pub returns : goal.returns
returns c = answers_polls_in_turn
