use Rattle.downlink.proofs.MadeUp.{is_not_made_up}
use Rattle.downlink.proofs.laws.nothing_made_up.Goals as goal

pub returns : goal.returns
returns c = is_not_made_up
