use Rattle.std.proofs.Common.{ap, ◌∙◌}
use Rattle.powersave.specs.Keep.{without_all, room_beside}
use Rattle.powersave.proofs.QueueSteps.{kept_removed, removed_within}
use Rattle.powersave.proofs.keep.Keep.drop_for.Goals as goal

pub overflow_sub-self : goal.overflow_sub-self
overflow_sub-self c = removed_within _ _ _ _ _ _ _ c.self.invariant c.args.whom c.remove.result c.remove.ensures

pub invariant_of-self : goal.invariant_of-self
invariant_of-self c =
    kept_removed _ _ _ _ _ _ _ c.self.invariant c.args.whom c.remove.result c.room_beside-self-inside.result c.remove.ensures c.room_beside-self-inside.ensures

pub returns : goal.returns
returns c =
    let whom = c.args.whom in
    let seen = c.self.view_is in
    let rest = c.remove.ensures.rest _ c.self.invariant.sound ∙ ap (λ k. without_all whom k.entries) seen in
    let room = c.room_beside-self-inside.ensures ∙ ap (λ k. room_beside whom k.reserved) seen in
    λ i. record { quota = (seen i).quota; entries = rest i; reserved = room i; puts = (seen i).puts; in_front = (seen i).in_front }
