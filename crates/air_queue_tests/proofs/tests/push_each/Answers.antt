use Rattle.std.proofs.Common.{◌≡◌, List, [], ◌∷◌, ◌++◌, length, map, refl, sym, ap, ◌∙◌, arith}
use Rattle.std.specs.Vec.Iter.{into_iter_items}
use Rattle.std.proofs.lemmas.List.{append-nil}
use Rattle.std.proofs.lemmas.List.Elements.{recursion_from_All}
use Rattle.air_queue.specs.Passes.{NetPassView}
use Rattle.air_queue_tests.proofs.tests.push_each.Goals as goal

no_passes : (passes : List NetPassView) → length passes ≡ 0 → passes ≡ []
no_passes [] is = refl
no_passes (pass ∷ passes) is = absurd (omega (arith, is))

-- no pass is to come
pub returns : goal.returns
returns g c =
    let back = c.loop-pass.back.items in
    let coming = c.loop-pass.pass-iterator in
    let ended : into_iter_items coming ≡ [] = no_passes (into_iter_items coming) (omega (arith, coming.rest.ok, c.in-None.ensures.steps.0)) in
    let same : map (λ (pass : NetPassView). pass.place) back ≡ map (λ (pass : NetPassView). pass.place) c.args.nets.items =
    ap (map (λ (pass : NetPassView). pass.place)) (sym (append-nil back) ∙ ap (λ xs. back ++ xs) (sym ended)) ∙ c.loop-pass.invariant.placed in
    record {
      named = recursion_from_All _ back c.loop-pass.invariant.named;
      placed = same ∙ c.requires.placed;
    }
