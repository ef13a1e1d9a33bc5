use Rattle.network.proofs.Aging.{unaged}
use Rattle.network.proofs.laws.nothing_ages.Goals as goal

pub returns : goal.returns
returns c = unaged
