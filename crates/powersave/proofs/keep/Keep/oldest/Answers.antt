use Rattle.std.proofs.Common.{ap, ◌∙◌}
use Rattle.std.specs.List.{slice_get}
use Rattle.powersave.specs.Keep.{units_for, without_oldest, room_beside}
use Rattle.powersave.proofs.QueueSteps.{kept_empty, kept_popped, some_left}
use Rattle.powersave.proofs.keep.Keep.oldest.Goals as goal

pub invariant_of-self : goal.invariant_of-self
invariant_of-self c =
    kept_empty _ _ _ _ _ _ _ c.self.invariant c.args.whom c.room_beside-self-inside.result c.in_err-unit.ensures c.room_beside-self-inside.ensures

pub returns-in_err-unit-clause-unit : goal.returns-in_err-unit-clause-unit
returns-in_err-unit-clause-unit c =
    c.from_residual.ensures
    ∙ c.in_err-unit.ensures.unit _ c.self.invariant.sound
    ∙ ap (λ k. slice_get (units_for c.args.whom k.entries) 0) c.self.view_is

pub returns-in_err-unit-clause-after : goal.returns-in_err-unit-clause-after
returns-in_err-unit-clause-after c =
    let whom = c.args.whom in
    let seen = c.self.view_is in
    let rest = c.in_err-unit.ensures.rest _ c.self.invariant.sound ∙ ap (λ k. without_oldest whom k.entries) seen in
    let room = c.room_beside-self-inside.ensures ∙ ap (λ k. room_beside whom k.reserved) seen in
    λ i. record { quota = (seen i).quota; entries = rest i; reserved = room i; puts = (seen i).puts; in_front = (seen i).in_front }

pub overflow_sub-self : goal.overflow_sub-self
overflow_sub-self c = some_left _ _ _ _ _ _ _ c.self.invariant c.args.whom c.in_ok-unit.unit c.in_ok-unit.ensures

pub invariant_of-self-2 : goal.invariant_of-self-2
invariant_of-self-2 c =
    kept_popped _ _ _ _ _ _ _ c.self.invariant c.args.whom c.in_ok-unit.unit c.room_beside-self-inside.result c.in_ok-unit.ensures c.room_beside-self-inside.ensures

pub returns-clause-unit : goal.returns-clause-unit
returns-clause-unit c =
    c.in_ok-unit.ensures.unit _ c.self.invariant.sound
    ∙ ap (λ k. slice_get (units_for c.args.whom k.entries) 0) c.self.view_is

pub returns-clause-after : goal.returns-clause-after
returns-clause-after c =
    let whom = c.args.whom in
    let seen = c.self.view_is in
    let rest = c.in_ok-unit.ensures.rest _ c.self.invariant.sound ∙ ap (λ k. without_oldest whom k.entries) seen in
    let room = c.room_beside-self-inside.ensures ∙ ap (λ k. room_beside whom k.reserved) seen in
    λ i. record { quota = (seen i).quota; entries = rest i; reserved = room i; puts = (seen i).puts; in_front = (seen i).in_front }
