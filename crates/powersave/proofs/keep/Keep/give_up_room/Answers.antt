use Rattle.std.proofs.Common.{refl}
use Rattle.powersave.proofs.QueueSteps.{kept_beside}
use Rattle.powersave.proofs.keep.Keep.give_up_room.Goals as goal

pub invariant_of-self : goal.invariant_of-self
invariant_of-self c = kept_beside _ _ _ _ _ _ _ c.self.invariant c.args.whom.now c.room_beside-self-inside.result refl c.room_beside-self-inside.ensures
