use Rattle.powersave.proofs.QueueSteps.{kept_same, kept_reserved}
use Rattle.powersave.proofs.keep.Keep.reserve.Goals as goal

pub invariant_of-self : goal.invariant_of-self
invariant_of-self c = kept_same _ _ _ _ _ _ _ c.self.invariant c.in_err-make_room.ensures.units

pub invariant_of-self-2 : goal.invariant_of-self-2
invariant_of-self-2 c = kept_reserved _ _ _ _ _ _ _ c.self.invariant c.args.whom c.in_ok-make_room.ensures.units c.in_ok-make_room.ensures.ok
