use Rattle.std.proofs.Common.{◌≡◌, ◌+◌, ◌≤◌, ℕ, [], ◌∷◌, List, drop, refl, sym, ap, subst, ◌∙◌}
use Rattle.std.specs.List.{cons_option}
use Rattle.std.proofs.lemmas.List.{drop_all}
use Rattle.workers.specs.Receipts.{receipts_of, AreThere}
use Rattle.workers.specs.declared.caller.Entry.{Entry}
use Rattle.workers.proofs.Receiving.{from-item}
use Rattle.workers.proofs.receipts.are_there.Goals as goal

pub loop-entry-preserved : goal.loop-entry-preserved
loop-entry-preserved c rest =
    let e : Entry = c.entry-item.result in
    let k : ℕ = c.loop-entry.entry-index in
    let others : List Entry = drop (k + 1) c.args.entries.now in
    let cut = from-item c.args.entries.now k e c.loop-entry-test.true c.entry-item.is in
    c.loop-entry.invariant (λ place past.
    ap (receipts_of place) cut
    ∙ ap (λ o. cons_option o (receipts_of place others)) (c.is_there.ensures c.if-not-is_there.false place past)
    ∙ rest place past)

pub returns : goal.returns
returns c true_is =
    c.loop-entry.invariant (subst (AreThere c.args.networks) (sym (drop_all c.loop-entry.entry-index c.args.entries.now c.loop-entry-test.false)) (λ place past. refl))
