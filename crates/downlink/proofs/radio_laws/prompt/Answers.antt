use Rattle.downlink.proofs.RadioRuns.{radio_prompt}
use Rattle.downlink.proofs.radio_laws.prompt.Goals as goal

pub returns : goal.returns
returns c = radio_prompt c.soon.ensures
