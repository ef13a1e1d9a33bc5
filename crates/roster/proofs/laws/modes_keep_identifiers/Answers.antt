use Rattle.roster.proofs.UnitsKept.{aid_for-mode}
use Rattle.roster.proofs.laws.modes_keep_identifiers.Goals as goal

pub returns : goal.returns
returns c = aid_for-mode c.modes_alone.ensures
