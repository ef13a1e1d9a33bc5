use Rattle.live.proofs.BeforeReads.{has-answered}
use Rattle.live.proofs.laws.answers_come_before_reads.Goals as goal

pub returns : goal.returns
returns c = has-answered
