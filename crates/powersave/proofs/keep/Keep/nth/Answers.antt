use Rattle.std.proofs.Common.{ap, ◌∙◌}
use Rattle.std.specs.List.{slice_get}
use Rattle.powersave.specs.Keep.{units_for}
use Rattle.powersave.proofs.QueueSteps.{unit_at-units}
use Rattle.powersave.proofs.keep.Keep.nth.Goals as goal

pub returns : goal.returns
returns c =
    c.nth.ensures
    ∙ unit_at-units _ c.args.whom c.self.inside.queues.map.entries c.args.n c.self.invariant.sound
    ∙ ap (λ k. slice_get (units_for c.args.whom k.entries) c.args.n) c.self.view_is
