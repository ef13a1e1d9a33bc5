use Rattle.std.proofs.Common.{◌≡◌, ◌+◌, ◌++◌, [], ◌∷◌, ap, sym, refl, subst, ◌∙◌, arith}
use Rattle.std.proofs.lemmas.List.FromFn.{map-range_with_len_more}
use Rattle.air_queue.specs.Passes.{fresh_pass}
use Rattle.air_queue.specs.Rule.{IsRadioWith, giving, given, pushed_by}
use Rattle.air_queue.proofs.RuleSteps.{gives}
use Rattle.air_queue.proofs.queue.give_passes.Goals as goal

pub another-theirs-requires-clause-rule : goal.another-theirs-requires-clause-rule
another-theirs-requires-clause-rule c = gives _ [] _ (subst (IsRadioWith []) (sym c.loop-place.invariant.1) refl)

pub loop-place-preserved : goal.loop-place-preserved
loop-place-preserved c =
    let place = c.loop-place.place in
    let name = c.args.queue.now.table.shared.table_id in
    let i = c.loop-place.invariant in
    let theirs = c.another-theirs.ensures in
    let put = c.push_reserved.ensures in
    let pushed = ap pushed_by (theirs.rule.1 ∙ ap given i.1) in
    let new : c.new.result ≡ fresh_pass name place = c.new.ensures ∙ (λ k. record { name = theirs.queue.1.0 k; place = place; pushed = pushed k }) in
    let room = i.4 in
    let same = put.capacity in (
      (theirs.queue.0.0 ∙ i.0.0, theirs.queue.0.2 ∙ i.0.1),
      theirs.rule.0 ∙ ap giving i.1,
      put.items ∙ (λ k. i.2 k ++ new k ∷ []) ∙ sym (map-range_with_len_more (fresh_pass name) 0 place place (omega arith)),
      put.len ∙ ap (λ n. n + 1) i.3,
      omega (arith, room, same),
    )
