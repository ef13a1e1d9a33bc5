use Rattle.downlink.proofs.Twice.{at_most_twice}
use Rattle.downlink.proofs.laws.at_most_twice.Goals as goal

pub returns : goal.returns
returns c = at_most_twice
