use Rattle.roster.proofs.Aging.{group-young}
use Rattle.roster.proofs.UnitsKept.{group-stays}
use Rattle.roster.proofs.laws.group_stays.Goals as goal

pub returns : goal.returns
returns c = record { beside = group-stays; young = group-young }
