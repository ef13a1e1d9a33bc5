use Rattle.downlink.proofs.OneAnswer.{answers_one_at_a_time}
use Rattle.downlink.proofs.laws.one_answer_at_a_time.Goals as goal

pub returns : goal.returns
returns c = answers_one_at_a_time
