use Rattle.std.proofs.Common.{◌≡◌, ◌+◌, ℕ, List, Bool, drop, length, refl, sym, subst, ◌∙◌, vec_len}
use Rattle.std.proofs.lemmas.List.{drop_all, with_items_is}
use Rattle.workers.specs.Receipts.{MarksFull}
use Rattle.workers.specs.declared.caller.Entry.{Entry}
use Rattle.workers.proofs.Receiving.{IsRest, from-item, full-more}
use Rattle.workers.proofs.receipts.check_full.Goals as goal

pub loop-entry-preserved : goal.loop-entry-preserved
loop-entry-preserved c =
    let i = c.loop-entry.invariant in
    let networks = c.args.networks.now in
    let e : Entry = c.entry-item.result in
    let k : ℕ = c.loop-entry.entry-index in
    let others : List Entry = drop (k + 1) c.args.entries.now in
    let old : List Bool = c.loop-entry.full.items in
    let new : List Bool = c.check_entry.new.full in
    let cut = from-item c.args.entries.now k e c.loop-entry-test.true c.entry-item.is in
    let marks : MarksFull networks e old new = subst (λ (o : List Bool). MarksFull networks e o new) c.as_mut_slice.ensures.value c.in_ok-check_entry.ensures in
    let long : length new ≡ vec_len c.loop-entry.full = c.check_entry.auto.full ∙ c.as_mut_slice.ensures.len in
    record {
      all = λ rest. i.all (subst (IsRest networks old) (sym cut)
          (full-more networks e others old new marks (subst (λ (f : List Bool). IsRest networks f others) (with_items_is c.loop-entry.full new long) rest)));
      long = i.long;
    }

pub returns : goal.returns
returns c =
    let none = drop_all c.loop-entry.entry-index c.args.entries.now c.loop-entry-test.false in
    c.loop-entry.invariant.all (subst (IsRest c.args.networks.now c.loop-entry.full.items) (sym none) (record {
      last = λ k place told. absurd (cc);
      none = λ place told. refl;
    }))
