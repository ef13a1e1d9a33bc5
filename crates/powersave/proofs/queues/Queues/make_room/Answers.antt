use Rattle.std.proofs.Common.{◌<◌, sym, ap, ◌∙◌, subst, arith}
use Rattle.std.specs.Map.{lookup, set_value}
use Rattle.std.specs.Option.{IsSomeAnd}
use Rattle.indexmap.specs.IndexMap.{insert_entry}
use Rattle.indexmap.proofs.CallerLemmas.{insert_entry-new}
use Rattle.powersave.specs.Queues.{is_whom}
use Rattle.powersave.proofs.QueueSteps.{HasSpace, lookup-set_here, makes_room_in, makes_room_new}
use Rattle.powersave.proofs.Whoms.{whom_eq, is_at_whom, found_in, one_each}
use Rattle.powersave.proofs.queues.Queues.make_room.Goals as goal

pub returns-in_err-reserve-clause-units : goal.returns-in_err-reserve-clause-units
returns-in_err-reserve-clause-units c =
    let whom = c.args.whom.now in
    let map = c.args.self.now.map in
    let queue = c.in-Some.queue.now in
    let left = c.reserve.new.self in
    let told = c.reserve.ensures in
    makes_room_in whom map.entries (c.get_mut.follows.lender left).entries queue left
    (found_in whom map queue c.in-Some.ensures.value)
    ((c.get_mut.follows.holds left).0 ∙ ap (λ t. set_value t map.entries left) (is_at_whom whom))
    told.items
    (λ space. let len = told.len in let capacity = told.capacity in omega arith)

pub returns-in-Some-clause-ok : goal.returns-in-Some-clause-ok
returns-in-Some-clause-ok c =
    let whom = c.args.whom.now in
    let map = c.args.self.now.map in
    let queue = c.in-Some.queue.now in
    let left = c.reserve.new.self in
    let is = (c.get_mut.follows.holds left).0 ∙ ap (λ t. set_value t map.entries left) (is_at_whom whom) in
    let here = ap (lookup (is_whom whom)) is ∙ lookup-set_here whom map.entries queue left (found_in whom map queue c.in-Some.ensures.value) in
    let space : left.len < left.cap = let ok = c.in_ok-reserve.ensures.ok in omega arith in
    subst (λ o. IsSomeAnd o HasSpace) (sym here) space

pub returns-in-Some-clause-units : goal.returns-in-Some-clause-units
returns-in-Some-clause-units c =
    let whom = c.args.whom.now in
    let map = c.args.self.now.map in
    let queue = c.in-Some.queue.now in
    let left = c.reserve.new.self in
    let told = c.reserve.ensures in
    makes_room_in whom map.entries (c.get_mut.follows.lender left).entries queue left
    (found_in whom map queue c.in-Some.ensures.value)
    ((c.get_mut.follows.holds left).0 ∙ ap (λ t. set_value t map.entries left) (is_at_whom whom))
    told.items
    (λ space. let len = told.len in let capacity = told.capacity in omega arith)

pub returns-clause-ok : goal.returns-clause-ok
returns-clause-ok c =
    let whom = c.args.whom.now in
    let new = c.insert.new.self in
    let queue = c.in_ok-queue.queue in
    let here = ap (λ t. lookup t new.entries) (sym (is_at_whom whom)) ∙ c.in_ok-insert.ensures.updates.1 in
    let space : queue.len < queue.cap = let len = c.in_ok-queue.ensures.len in let capacity = c.in_ok-queue.ensures.capacity in omega arith in
    subst (λ o. IsSomeAnd o HasSpace) (sym here) space

pub returns-clause-units : goal.returns-clause-units
returns-clause-units c =
    let whom = c.args.whom.now in
    let map = c.args.self.now.map in
    let new = c.insert.new.self in
    let queue = c.in_ok-queue.queue in
    makes_room_new whom map.entries new.entries queue
    (c.in_ok-insert.ensures.entries
    ∙ ap (λ m. insert_entry whom_eq m.entries whom queue) c.get_mut.follows.holds-at-none
    ∙ insert_entry-new whom_eq map whom queue (sym c.in_default.ensures.value))
    (one_each new c.in_ok-insert.ensures.unique)
    c.in_ok-queue.ensures.items
