use Rattle.std.proofs.Common.{◌≡◌, ℕ, List, None, Some, option_map, set, ◌∙◌, sym, ap, subst, arith}
use Rattle.std.proofs.lemmas.Option.{slice_get_within, get_or_from_slice_get}
use Rattle.std.specs.Map.{remove_entry}
use Rattle.std.specs.Str.{bytes_eq}
use Rattle.address_map.specs.Entries.{value_of}
use Rattle.address_map.specs.Slots.{Slots, slot_of, entries_in, TakesOut, MayList}
use Rattle.address_map.proofs.ChangedEntries.{remove-unknown}
use Rattle.address_map.proofs.FoundSlots.{read-found, unknown-where, entries-out}
use Rattle.address_map.proofs.SlotOrder.{takes-out, list-out, slots-popped, entries-popped, list-popped}
use Rattle.address_map.proofs.map.AddressMap.take_out.Goals as goal

pub returns-in_err-slot-clause-old : goal.returns-in_err-slot-clause-old
returns-in_err-slot-clause-old g c =
    let slots : Slots _ = c.self.inside.slots.items in
    let none : slot_of c.args.addr slots ≡ None = sym (c.self.invariant.found c.args.addr) ∙ sym c.in_err-slot.ensures.value in
    c.from_residual.ensures ∙ sym (unknown-where c.args.addr slots none) ∙ ap (value_of c.args.addr) c.self.view_is

pub returns-in_err-slot-clause-entries : goal.returns-in_err-slot-clause-entries
returns-in_err-slot-clause-entries g c =
    let slots : Slots _ = c.self.inside.slots.items in
    let none : slot_of c.args.addr slots ≡ None = sym (c.self.invariant.found c.args.addr) ∙ sym c.in_err-slot.ensures.value in
    sym (remove-unknown c.args.addr (entries_in slots) (unknown-where c.args.addr slots none)) ∙ ap (remove_entry (bytes_eq c.args.addr)) c.self.view_is

pub index-requires : goal.index-requires
index-requires g c =
    let slots : Slots _ = c.self.inside.slots.items in
    let found = read-found c.args.addr c.self.inside.index.entries slots c.in_ok-slot.slot c.self.invariant.found (sym c.in_ok-slot.ensures.value) in
    let within = slice_get_within slots c.in_ok-slot.slot (Some (c.args.addr, found.0)) found.1.slot in
    omega (arith, within)

pub index_mut-requires : goal.index_mut-requires
index_mut-requires g c =
    let slots : Slots _ = c.self.inside.slots.items in
    let found = read-found c.args.addr c.self.inside.index.entries slots c.in_ok-slot.slot c.self.invariant.found (sym c.in_ok-slot.ensures.value) in
    let within = slice_get_within slots c.in_ok-slot.slot (Some (c.args.addr, found.0)) found.1.slot in
    omega (arith, within)

pub overflow_add-slot : goal.overflow_add-slot
overflow_add-slot g c =
    let slots : Slots _ = c.self.inside.slots.items in
    let found = read-found c.args.addr c.self.inside.index.entries slots c.in_ok-slot.slot c.self.invariant.found (sym c.in_ok-slot.ensures.value) in
    let within = slice_get_within slots c.in_ok-slot.slot (Some (c.args.addr, found.0)) found.1.slot in
    omega (arith, within)

pub returns-then-ends_with-clause-old : goal.returns-then-ends_with-clause-old
returns-then-ends_with-clause-old g c =
    let slots : Slots _ = c.self.inside.slots.items in
    let i : ℕ = c.in_ok-slot.slot in
    let found = read-found c.args.addr c.self.inside.index.entries slots i c.self.invariant.found (sym c.in_ok-slot.ensures.value) in
    c.value_in-before.ensures ∙ ap (option_map (λ (entry : List ℕ × _). entry.1)) (c.index.ensures ∙ get_or_from_slice_get slots i (Some (c.args.addr, found.0)) c.index.result.now found.1.slot)
    ∙ sym found.1.known ∙ ap (value_of c.args.addr) c.self.view_is

pub returns-then-ends_with-clause-entries : goal.returns-then-ends_with-clause-entries
returns-then-ends_with-clause-entries g c =
    let slots : Slots _ = c.self.inside.slots.items in
    let i : ℕ = c.in_ok-slot.slot in
    let found = read-found c.args.addr c.self.inside.index.entries slots i c.self.invariant.found (sym c.in_ok-slot.ensures.value) in
    let front : Slots _ = c.pop.new.self.items in
    let last = slots-popped slots front i _ (Some (c.args.addr, found.0)) found.1.slot (omega (arith, c.if-slot-len.true, c.len.ensures)) (omega (arith, c.if-slot-len.true, c.len.ensures)) c.pop.ensures.rest in
    entries-popped c.args.addr slots front i (Some (c.args.addr, found.0)) found.1.place last.0 last.1 ∙ ap (remove_entry (bytes_eq c.args.addr)) c.self.view_is

pub invariant_of-self-then-ends_with : goal.invariant_of-self-then-ends_with
invariant_of-self-then-ends_with g c =
    let slots : Slots _ = c.self.inside.slots.items in
    let i : ℕ = c.in_ok-slot.slot in
    let found = read-found c.args.addr c.self.inside.index.entries slots i c.self.invariant.found (sym c.in_ok-slot.ensures.value) in
    let front : Slots _ = c.pop.new.self.items in
    let last = slots-popped slots front i _ (Some (c.args.addr, found.0)) found.1.slot (omega (arith, c.if-slot-len.true, c.len.ensures)) (omega (arith, c.if-slot-len.true, c.len.ensures)) c.pop.ensures.rest in
    let row : List ℕ = c.self.inside.order.row.items in
    let gone : List ℕ = c.self.inside.order.gone.items in
    list-popped c.self.inside.index.entries c.swap_remove.new.self.entries slots front c.self.inside.holes row gone c.pop-then-ends_with.new.self.row.items c.pop-then-ends_with.new.self.gone.items c.args.addr i found.0
    c.self.invariant found.1 last.0 last.1 (λ q. c.in_ok-slot.ensures.updates.0 q) (c.ends_with.ensures c.if-ends_with.true) c.pop-then-ends_with.ensures.row (ap (λ g. g.items) c.pop-then-ends_with.ensures.gone)

pub returns-clause-old : goal.returns-clause-old
returns-clause-old g c =
    let slots : Slots _ = c.self.inside.slots.items in
    let i : ℕ = c.in_ok-slot.slot in
    let found = read-found c.args.addr c.self.inside.index.entries slots i c.self.invariant.found (sym c.in_ok-slot.ensures.value) in
    c.value_in-before.ensures ∙ ap (option_map (λ (entry : List ℕ × _). entry.1)) (c.index.ensures ∙ get_or_from_slice_get slots i (Some (c.args.addr, found.0)) c.index.result.now found.1.slot)
    ∙ sym found.1.known ∙ ap (value_of c.args.addr) c.self.view_is

pub returns-clause-entries : goal.returns-clause-entries
returns-clause-entries g c =
    let slots : Slots _ = c.self.inside.slots.items in
    let i : ℕ = c.in_ok-slot.slot in
    let found = read-found c.args.addr c.self.inside.index.entries slots i c.self.invariant.found (sym c.in_ok-slot.ensures.value) in
    entries-out c.args.addr slots i found.1.place ∙ ap (remove_entry (bytes_eq c.args.addr)) c.self.view_is

pub invariant_of-self-2 : goal.invariant_of-self-2
invariant_of-self-2 g c =
    let slots : Slots _ = c.self.inside.slots.items in
    let i : ℕ = c.in_ok-slot.slot in
    let row : List ℕ = c.self.inside.order.row.items in
    let gone : List ℕ = c.self.inside.order.gone.items in
    let rows : List ℕ = c.leave.new.self.row.items in
    let places : List ℕ = c.leave.new.self.gone.items in
    let old : List (List ℕ × ℕ) = c.self.inside.index.entries in
    let new : List (List ℕ × ℕ) = c.swap_remove.new.self.entries in
    let found = read-found c.args.addr old slots i c.self.invariant.found (sym c.in_ok-slot.ensures.value) in
    let out : TakesOut i slots c.as_slice.result.now = subst (TakesOut i slots) (sym c.as_slice.ensures.value) (takes-out slots c.args.addr i found.0 c.self.invariant.apart found.1) in
    let order : MayList rows places (set slots i None) = subst (MayList rows places) c.as_slice.ensures.value (c.leave.ensures slots out c.self.invariant.listed) in
    list-out old new slots c.self.inside.holes row gone rows places c.args.addr i found.0 c.self.invariant found.1 (λ q. c.in_ok-slot.ensures.updates.0 q) order
