use Rattle.std.proofs.Common.{[], ◌∷◌, ◌++◌, Result, Ok, Err, OnErr, sym, ap, ◌∙◌, subst, arith}
use Rattle.std.specs.Map.{set_value}
use Rattle.std.specs.Option.{IsSomeAnd}
use Rattle.indexmap.specs.IndexMap.{insert_entry}
use Rattle.indexmap.proofs.CallerLemmas.{insert_entry-new}
use Rattle.powersave.specs.Queues.{queue_with}
use Rattle.powersave.proofs.PutBacks.{puts_back, puts_back_new}
use Rattle.powersave.proofs.QueueSteps.{HasSpace, makes_room_in}
use Rattle.powersave.proofs.Turns.{numbered}
use Rattle.powersave.proofs.Whoms.{whom_eq, is_at_whom, found_in, missing_in, one_each}
use Rattle.powersave.proofs.queues.Queues.put_back.Goals as goal

on_err : {A E P : Type 0} (result : Result A E) → P → OnErr result P
on_err (Ok value) p = tt
on_err (Err fault) p = p

pub returns-in_err-reserve-clause-err : goal.returns-in_err-reserve-clause-err
returns-in_err-reserve-clause-err c =
    let whom = c.args.whom.now in
    let map = c.args.self.now.map in
    let queue = c.in-Some.queue.now in
    let left = c.reserve.new.self in
    let told = c.reserve.ensures in
    on_err c.from_residual.result
    (makes_room_in whom map.entries (c.get_mut.follows.lender left).entries queue left
    (found_in whom map queue c.in-Some.ensures.value)
    ((c.get_mut.follows.holds left).0 ∙ ap (λ t. set_value t map.entries left) (is_at_whom whom))
    told.items
    (λ space. let len = told.len in let capacity = told.capacity in omega arith))

pub returns-in_err-reserve-clause-room : goal.returns-in_err-reserve-clause-room
returns-in_err-reserve-clause-room c room =
    let found = found_in c.args.whom.now c.args.self.now.map c.in-Some.queue.now c.in-Some.ensures.value in
    let space = subst (λ o. IsSomeAnd o HasSpace) found room in
    let full = c.in_err-reserve.ensures.full in
    absurd (omega arith)

pub returns-in-Some-clause-ok : goal.returns-in-Some-clause-ok
returns-in-Some-clause-ok c =
    let whom = c.args.whom.now in
    let map = c.args.self.now.map in
    let queue = c.in-Some.queue.now in
    let more = c.put_behind.new.queue in
    puts_back whom c.args.first c.args.before c.args.unit map.entries (c.get_mut.follows.lender more).entries queue more
    (found_in whom map queue c.in-Some.ensures.value)
    ((c.get_mut.follows.holds more).0 ∙ ap (λ t. set_value t map.entries more) (is_at_whom whom))
    (c.put_behind.ensures ∙ ap (queue_with c.args.first c.args.before c.args.unit) c.reserve.ensures.items)

pub returns-in_err-fresh-clause-room : goal.returns-in_err-fresh-clause-room
returns-in_err-fresh-clause-room c room =
    absurd (subst (λ o. IsSomeAnd o HasSpace) (missing_in c.args.whom.now c.args.self.now.map c.in_default.ensures.value) room)

pub returns-in_err-insert-clause-room : goal.returns-in_err-insert-clause-room
returns-in_err-insert-clause-room c room =
    absurd (subst (λ o. IsSomeAnd o HasSpace) (missing_in c.args.whom.now c.args.self.now.map c.in_default.ensures.value) room)

pub returns-clause-ok : goal.returns-clause-ok
returns-clause-ok c =
    let whom = c.args.whom.now in
    let map = c.args.self.now.map in
    let new = c.insert.new.self in
    let queue = c.push_back_reserved.new.self in
    puts_back_new whom c.args.first c.args.before c.args.unit map.entries new.entries queue
    (missing_in whom map c.in_default.ensures.value)
    (c.in_ok-insert.ensures.entries
    ∙ ap (λ m. insert_entry whom_eq m.entries whom queue) c.get_mut.follows.holds-at-none
    ∙ insert_entry-new whom_eq map whom queue (sym c.in_default.ensures.value))
    (one_each new c.in_ok-insert.ensures.unique)
    (c.push_back_reserved.ensures.items ∙ ap (λ xs. xs ++ numbered c.args.first c.args.unit ∷ []) c.in_ok-fresh.ensures.items)
