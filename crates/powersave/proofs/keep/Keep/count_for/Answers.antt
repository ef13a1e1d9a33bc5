use Rattle.std.proofs.Common.{length, ap, ◌∙◌}
use Rattle.powersave.specs.Keep.{units_for}
use Rattle.powersave.proofs.QueueSteps.{count-units}
use Rattle.powersave.proofs.keep.Keep.count_for.Goals as goal

pub returns : goal.returns
returns c =
    c.count_for.ensures
    ∙ count-units _ c.args.whom c.self.inside.queues.map.entries c.self.invariant.sound
    ∙ ap (λ k. length (units_for c.args.whom k.entries)) c.self.view_is
