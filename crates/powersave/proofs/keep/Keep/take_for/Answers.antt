use Rattle.std.proofs.Common.{sym, ap, ◌∙◌, subst}
use Rattle.powersave.specs.Keep.{Kept, units_for, without_all, room_beside}
use Rattle.powersave.specs.Queues.{Removes}
use Rattle.powersave.proofs.QueueSteps.{kept_removed, removed_within}
use Rattle.powersave.proofs.keep.Keep.take_for.Goals as goal

pub overflow_sub-self : goal.overflow_sub-self
overflow_sub-self c =
    let queue = c.take-queue.result in
    let old = c.self.inside.queues.map.entries in
    let new = c.take-queue.new.self.map.entries in
    let gone = subst (λ n. Removes c.args.whom old n new) (sym (c.len.ensures ∙ queue.ok.0)) c.take-queue.ensures.gone in
    removed_within _ _ _ _ _ _ _ c.self.invariant c.args.whom c.len.result gone

pub invariant_of-self : goal.invariant_of-self
invariant_of-self c =
    let queue = c.take-queue.result in
    let old = c.self.inside.queues.map.entries in
    let new = c.take-queue.new.self.map.entries in
    let gone = subst (λ n. Removes c.args.whom old n new) (sym (c.len.ensures ∙ queue.ok.0)) c.take-queue.ensures.gone in
    kept_removed _ _ _ _ _ _ _ c.self.invariant c.args.whom c.len.result c.room_beside-self-inside.result gone c.room_beside-self-inside.ensures

pub returns-clause-units : goal.returns-clause-units
returns-clause-units c =
    c.new.ensures
    ∙ c.take-queue.ensures.units _ c.self.invariant.sound
    ∙ ap (λ (k : Kept). units_for c.args.whom k.entries) c.self.view_is

pub returns-clause-after : goal.returns-clause-after
returns-clause-after c =
    let whom = c.args.whom in
    let seen = c.self.view_is in
    let rest = c.take-queue.ensures.gone.rest _ c.self.invariant.sound ∙ ap (λ (k : Kept). without_all whom k.entries) seen in
    let room = c.room_beside-self-inside.ensures ∙ ap (λ (k : Kept). room_beside whom k.reserved) seen in
    λ i. record { quota = (seen i).quota; entries = rest i; reserved = room i; puts = (seen i).puts; in_front = (seen i).in_front }
