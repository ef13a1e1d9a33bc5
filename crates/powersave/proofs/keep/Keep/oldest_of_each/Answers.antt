use Rattle.std.proofs.Common.{Result, Ok, Err, IfOk, sym, subst}
use Rattle.powersave.specs.Keep.{Kept, AreOldest, AreToldOnce}
use Rattle.powersave.specs.Queues.{entries_in}
use Rattle.powersave.proofs.OldestUnits.{all-told, told-once}
use Rattle.powersave.proofs.keep.Keep.oldest_of_each.Goals as goal

on_ok : {A E : Type 0} {P Q : A → Type 0} (result : Result A E) → ((a : A) → P a → Q a) → IfOk result P → IfOk result Q
on_ok (Ok a) follows p = follows a p
on_ok (Err fault) follows p = tt

pub returns-clause-each : goal.returns-clause-each
returns-clause-each c =
    let told = all-told _ c.self.inside.queues.map.entries c.self.invariant.sound in
    on_ok c.oldest_of_each.result
    (λ oldest is. subst (λ (k : Kept). AreOldest oldest.items k.entries) c.self.view_is (subst (λ os. AreOldest os (entries_in c.self.inside.queues.map.entries)) (sym is) told))
    c.oldest_of_each.ensures

pub returns-clause-once : goal.returns-clause-once
returns-clause-once c =
    let once = told-once c.self.inside.queues.map.entries c.self.invariant.sound.one_each in
    on_ok c.oldest_of_each.result (λ oldest is. subst AreToldOnce (sym is) once) c.oldest_of_each.ensures
