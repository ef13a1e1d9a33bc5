use Rattle.downlink.proofs.RadioRuns.{stays_told, told_with_more}
use Rattle.downlink.proofs.radio_laws.waits_while_frames_may_go.Goals as goal

pub returns-clause-more : goal.returns-clause-more
returns-clause-more c = told_with_more

pub returns-clause-calls : goal.returns-clause-calls
returns-clause-calls c = stays_told
