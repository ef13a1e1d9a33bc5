use Rattle.powersave.proofs.QueueSteps.{kept_new}
use Rattle.powersave.proofs.keep.Keep.new.Goals as goal

pub invariant_of-result : goal.invariant_of-result
invariant_of-result c = kept_new _ _ c.new.ensures
