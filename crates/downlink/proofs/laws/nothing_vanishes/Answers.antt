use Rattle.downlink.proofs.Conserved.{is_conserved}
use Rattle.downlink.proofs.laws.nothing_vanishes.Goals as goal

pub returns : goal.returns
returns c = is_conserved
