use Rattle.std.proofs.Common.{ap, sym, subst, ◌∙◌}
use Rattle.std.specs.List.{range_with_len}
use Rattle.air_queue.specs.Passes.{HasEach}
use Rattle.air_queue.specs.Rule.{IsRadio, left_of, networks_of, taken_in_of}
use Rattle.air_queue.proofs.Closings.{radio_after, left_after, networks_after, each_after}
use Rattle.air_queue.proofs.queue.AirQueue.close.Goals as goal

pub invariant_of-result : goal.invariant_of-result
invariant_of-result c =
    let same = c.take_passes.ensures.queue in
    let named = ap (λ p. p.name) c.pass.view_is ∙ c.requires.pass ∙ sym (ap (λ q. q.name) c.self.view_is) in (
      (same.0 ∙ named, same.2 ∙ c.pass.invariant.0),
      subst IsRadio (sym c.take_passes.ensures.radio) (radio_after _ c.args.nets.items c.pass.invariant.1),
    )

pub returns-clause-left : goal.returns-clause-left
returns-clause-left c = (
  ap left_of c.take_passes.ensures.radio ∙ left_after _ c.args.nets.items c.pass.invariant.1 ∙ ap (λ p. p.left) c.pass.view_is,
  ap networks_of c.take_passes.ensures.radio
      ∙ networks_after _ c.args.nets.items c.pass.invariant.1
      ∙ ap (λ p. p.networks) c.pass.view_is,
)

pub returns-clause-pushed : goal.returns-clause-pushed
returns-clause-pushed c =
    let new = ap (λ p. p.taken_in) c.pass.view_is ∙ c.requires.new in
    let placed = c.requires.nets.placed ∙ ap (range_with_len 0) (sym (ap (λ p. p.networks) c.pass.view_is)) in
    subst (λ u. HasEach (taken_in_of u) c.args.nets.items) (sym c.take_passes.ensures.radio)
    (each_after _ c.args.nets.items c.pass.invariant.1 new placed)
