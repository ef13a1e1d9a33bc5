use Rattle.std.proofs.Common.{ap, sym, subst, ◌∙◌}
use Rattle.crossbeam_queue.specs.Passes.{view}
use Rattle.air_queue.specs.Rule.{IsNetworkAt}
use Rattle.air_queue.proofs.RuleSteps.{pushes}
use Rattle.air_queue.proofs.queue.AirQueue.push.Goals as goal

pub push_as-requires-clause-rule : goal.push_as-requires-clause-rule
push_as-requires-clause-rule g c =
    let here = ap (λ p. p.place) c.pass.view_is ∙ sym c.requires.place in
    (pushes _ _ _ _ (subst (λ place. IsNetworkAt place (view c.pass.inside.queue_pass)) here c.pass.invariant.1), λ items views kept at. tt)
