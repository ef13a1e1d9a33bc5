use Rattle.std.proofs.Common.{◌≡◌, ◌≤◌, ◌∙◌, [], ◌∷◌, List, length, drop, Some, None, Result, Ok, Err, OnErr, refl, sym, ap, arith}
use Rattle.std.specs.Prelude.{nat_lt}
use Rattle.std.specs.Map.{set_value}
use Rattle.std.specs.Option.{option_map}
use Rattle.std.proofs.lemmas.Option.{slice_get_past, slice_get-get_or}
use Rattle.powersave.specs.declared.queues.Arrived.{Arrived}
use Rattle.powersave.proofs.QueueSteps.{pops, pops_none, makes_room_in, queue_found}
use Rattle.powersave.proofs.Whoms.{is_at_whom, found_in, missing_in}
use Rattle.powersave.proofs.queues.Queues.send.Goals as goal

none_left : (xs : List Arrived) → length xs ≤ 0 → xs ≡ drop 1 xs
none_left [] few = refl
none_left (x ∷ xs) few = absurd (omega (arith, few))

on_err : {A E P : Type 0} (result : Result A E) → P → OnErr result P
on_err (Ok value) p = tt
on_err (Err fault) p = p

pub returns-in_default-clause-ok : goal.returns-in_default-clause-ok
returns-in_default-clause-ok c =
    let whom = c.args.whom.now in
    let map = c.args.self.now.map in
    pops_none whom map.entries c.get_mut.follows.lender-at-none.entries None
    (missing_in whom map c.in_default.ensures.value)
    (ap (λ m. m.entries) c.get_mut.follows.holds-at-none)
    refl

pub returns-in_default-get-clause-ok : goal.returns-in_default-get-clause-ok
returns-in_default-get-clause-ok c =
    let whom = c.args.whom.now in
    let map = c.args.self.now.map in
    let queue = c.in-Some.queue.now in
    pops whom map.entries (c.get_mut.follows.lender queue).entries queue queue None
    (found_in whom map queue c.in-Some.ensures.value)
    ((c.get_mut.follows.holds queue).0 ∙ ap (λ t. set_value t map.entries queue) (is_at_whom whom))
    (none_left queue.items c.in_default-get.ensures.item.3)
    (λ space. space)
    (sym (ap (option_map (λ (a : Arrived). a.unit)) (slice_get_past queue.items 0 c.in_default-get.ensures.item.3)))

pub returns-in_err-frame-clause-err : goal.returns-in_err-frame-clause-err
returns-in_err-frame-clause-err c =
    let whom = c.args.whom.now in
    let map = c.args.self.now.map in
    let queue = c.in-Some.queue.now in
    on_err c.from_residual.result
    (makes_room_in whom map.entries (c.get_mut.follows.lender queue).entries queue queue
    (found_in whom map queue c.in-Some.ensures.value)
    ((c.get_mut.follows.holds queue).0 ∙ ap (λ t. set_value t map.entries queue) (is_at_whom whom))
    refl
    (λ space. space))

pub returns-clause-ok : goal.returns-clause-ok
returns-clause-ok c =
    let whom = c.args.whom.now in
    let map = c.args.self.now.map in
    let queue = c.in-Some.queue.now in
    let first = c.in-Some-get.first.now in
    let left = c.pop_front.new.self in
    let told = c.pop_front.ensures in
    let found = found_in whom map queue c.in-Some.ensures.value in
    let item = slice_get-get_or queue.items 0 first c.in-Some-get.ensures.item.3.0 ∙ ap Some (sym c.in-Some-get.ensures.lookup) in (
      first.unit,
      (
        pops whom map.entries (c.get_mut.follows.lender left).entries queue left (Some first.unit)
            found
            ((c.get_mut.follows.holds left).0 ∙ ap (λ t. set_value t map.entries left) (is_at_whom whom))
            told.rest
            (λ space. let len = told.len in let capacity = told.capacity in omega arith)
            (sym (ap (option_map (λ (a : Arrived). a.unit)) item)),
        c.in_ok-frame.ensures,
        ap (nat_lt 1) (c.len-follows.ensures ∙ queue.ok.0 ∙ ap length (sym (queue_found whom map.entries queue found))),
      ),
    )
