use Rattle.std.proofs.Common.{◌≡◌, ℕ, Some, None, sym, subst, ◌∙◌, arith}
use Rattle.std.proofs.lemmas.Option.{slice_get_within, get_or_from_slice_get, some_pair_parts, none-some}
use Rattle.address_map.specs.Slots.{Slots, IsAt, slot_of}
use Rattle.address_map.proofs.FoundSlots.{read-found, unknown-where, if_none-from}
use Rattle.address_map.proofs.map.find.Goals as goal

pub returns-in_err-slot-clause-unknown : goal.returns-in_err-slot-clause-unknown
returns-in_err-slot-clause-unknown g c =
    let none : slot_of c.args.addr c.args.slots.now ≡ None = sym (c.requires c.args.addr) ∙ sym c.in_err-slot.ensures.value in
    if_none-from _ _ (unknown-where c.args.addr c.args.slots.now none)

pub offset_bounds-slots-slot : goal.offset_bounds-slots-slot
offset_bounds-slots-slot g c =
    let found = read-found c.args.addr c.args.index.now.entries c.args.slots.now c.in_ok-slot.field-0.now c.requires (sym c.in_ok-slot.ensures.value) in
    let within = slice_get_within c.args.slots.now c.in_ok-slot.field-0.now (Some (c.args.addr, found.0)) found.1.slot in
    omega (arith, within)

pub bounds-slots-slot : goal.bounds-slots-slot
bounds-slots-slot g c =
    let found = read-found c.args.addr c.args.index.now.entries c.args.slots.now c.in_ok-slot.field-0.now c.requires (sym c.in_ok-slot.ensures.value) in
    slice_get_within c.args.slots.now c.in_ok-slot.field-0.now (Some (c.args.addr, found.0)) found.1.slot

pub returns-in_err-value-clause-unknown : goal.returns-in_err-value-clause-unknown
returns-in_err-value-clause-unknown g c =
    let slots : Slots _ = c.args.slots.now in
    let i : ℕ = c.in_ok-slot.field-0.now in
    let found = read-found c.args.addr c.args.index.now.entries slots i c.requires (sym c.in_ok-slot.ensures.value) in
    let read = sym c.in_err-value.was ∙ c.index-slots-slot.is ∙ get_or_from_slice_get slots i (Some (c.args.addr, found.0)) c.index-slots-slot.result found.1.slot in
    absurd (none-some (c.args.addr, found.0) read)

pub returns-clause-known : goal.returns-clause-known
returns-clause-known g c =
    let slots : Slots _ = c.args.slots.now in
    let i : ℕ = c.in_ok-slot.field-0.now in
    let found = read-found c.args.addr c.args.index.now.entries slots i c.requires (sym c.in_ok-slot.ensures.value) in
    let read = sym c.in_ok-value.was ∙ c.index-slots-slot.is ∙ get_or_from_slice_get slots i (Some (c.args.addr, found.0)) c.index-slots-slot.result found.1.slot in
    subst (IsAt c.args.addr slots i) (sym (some_pair_parts c.in_ok-value.field-0-0 c.args.addr c.in_ok-value.value found.0 read).1) found.1
