use Rattle.std.proofs.Common.{◌≡◌, ◌<◌, ℕ, List, [], sym, ap, subst, ◌∙◌}
use Rattle.std.specs.Prelude.{All}
use Rattle.std.specs.List.{AllByRecursion, range_with_len}
use Rattle.crossbeam_queue.specs.Passes.{view}
use Rattle.events.specs.Items.{items_of}
use Rattle.events.specs.declared.air_item.AirItem.{AirItem}
use Rattle.air_queue.specs.Passes.{NetPassView}
use Rattle.air_queue.specs.Rule.{IsRadioWith, AllTaken, Accounts, networks_of, taken_in_of}
use Rattle.air_queue.specs.declared.known.Known.TheVariants.{Radio}
use Rattle.air_queue.proofs.Takings.{left_in, all_in, whole_in, placed_in}
use Rattle.air_queue.proofs.queue.AirQueue.take_in.Goals as goal

pub drain-requires-clause-radio : goal.drain-requires-clause-radio
drain-requires-clause-radio g c =
    subst (IsRadioWith c.reserve.new.self.items) (sym c.take_passes.ensures.radio)
    (left_in _ _ c.args.nets.items (subst (λ l. IsRadioWith l (view c.radio.inside.queue_pass)) (sym c.reserve.ensures.items) c.radio.invariant.1))

pub drain-requires-clause-taken : goal.drain-requires-clause-taken
drain-requires-clause-taken g c =
    let new = ap (λ r. r.taken_in) c.radio.view_is ∙ c.requires.new in
    let placed = c.requires.nets.placed ∙ ap (range_with_len 0) (sym (ap (λ r. r.networks) c.radio.view_is)) in
    subst AllTaken (sym c.take_passes.ensures.radio) (all_in _ _ _ c.radio.invariant.1 new placed)

pub returns-clause-whole : goal.returns-clause-whole
returns-clause-whole g c =
    let new = ap (λ r. r.taken_in) c.radio.view_is ∙ c.requires.new in
    let placed = c.requires.nets.placed ∙ ap (range_with_len 0) (sym (ap (λ r. r.networks) c.radio.view_is)) in
    let out = c.drain.new.left.items in
    let account = subst (λ u. Accounts (Radio out (networks_of u) (taken_in_of u)) []) c.take_passes.ensures.radio c.drain.ensures.account in
    subst (λ xs. AllByRecursion (λ (pass : NetPassView). items_of pass.place xs ≡ pass.pushed) c.args.nets.items) (sym c.from_vec-2.ensures)
    (whole_in _ out _ _ c.radio.invariant.1 new placed account)

pub returns-clause-nothing_else : goal.returns-clause-nothing_else
returns-clause-nothing_else g c =
    let out = c.drain.new.left.items in
    let account = subst (λ u. Accounts (Radio out (networks_of u) (taken_in_of u)) []) c.take_passes.ensures.radio c.drain.ensures.account in
    let networks = ap (λ r. r.networks) c.radio.view_is in
    let items = sym c.from_vec-2.ensures in
    subst (λ (x : ℕ × List AirItem). All (λ (item : AirItem). item.place < x.0) x.1) (λ k. (networks k, items k))
    (placed_in _ out _ c.args.nets.items c.radio.invariant.1 account)
