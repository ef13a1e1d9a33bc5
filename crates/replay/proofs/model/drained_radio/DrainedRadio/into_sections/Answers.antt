use Rattle.std.proofs.Common.{◌≡◌, [], ◌++◌, map, inl, inr, sym, ap, ◌∙◌, append-nil, arith, rules}
use Rattle.std.specs.List.{zip}
use Rattle.std.specs.Vec.Iter.{into_iter_items}
use Rattle.std.proofs.lemmas.Grind.{common_steps}
use Rattle.network.specs.BssView.{BssView, section_with}
use Rattle.bss_core.specs.RadioView.{shown}
use Rattle.replay.proofs.SectionSteps.{sections_made, no_first, no_second}
use Rattle.replay.proofs.model.drained_radio.DrainedRadio.into_sections.Goals as goal

pub loop-network-preserved : goal.loop-network-preserved
loop-network-preserved c = record {
  made = grind (arith, common_steps);
  all = grind (arith, common_steps);
}

pub returns : goal.returns
returns c =
    let left = c.loop-network.network-iterator.a in
    let right = c.loop-network.network-iterator.b in
    let ended : zip (into_iter_items left) (into_iter_items right) ≡ [] = elim c.in-None.ensures.steps [
      | inl h ↦ no_first (into_iter_items left) (into_iter_items right) (omega (arith, left.rest.ok, h.1.0))
      | inr h ↦ no_second (into_iter_items left) (into_iter_items right) (omega (arith, right.rest.ok, h.1.0))
    ] in
    let first : into_iter_items c.into_iter-network-iterator.result.a ≡ c.into_vec.result.items = search rules in
    let second : into_iter_items c.into_iter-network-iterator.result.b ≡ c.into_vec-2.result.items = search rules in
    let all = sym (append-nil c.loop-network.yielded) ∙ ap (λ rest. c.loop-network.yielded ++ rest) (sym ended)
    ∙ c.loop-network.invariant.all
    ∙ ap (λ items. zip items (into_iter_items c.into_iter-network-iterator.result.b)) first
    ∙ ap (zip c.into_vec.result.items) second in
    let sections =
    sections_made c.args.self.radio c.args.self.sent c.into_vec.result.items c.into_vec-2.result.items c.requires
    (ap (map (λ (s : BssView). s.setting)) c.into_vec.ensures ∙ c.into_parts-networks.ensures.settings)
    (ap (map shown) c.into_vec.ensures ∙ c.into_parts-networks.ensures.networks)
    c.into_vec-2.ensures in
    c.loop-network.invariant.made ∙ ap (map (λ p. section_with p.1.items p.0)) all ∙ sections
