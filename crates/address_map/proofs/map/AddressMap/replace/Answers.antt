use Rattle.std.proofs.Common.{set, ◌≡◌, None, Some, ◌∙◌, sym, ap, subst, arith}
use Rattle.std.proofs.lemmas.Option.{slice_get_within}
use Rattle.std.specs.Map.{set_value}
use Rattle.std.specs.Str.{bytes_eq}
use Rattle.address_map.specs.Entries.{Entries, value_of}
use Rattle.address_map.specs.Slots.{Slots, IsAt, IsAddressMap, entries_in}
use Rattle.address_map.proofs.FoundSlots.{put-at, entries-set, set_value-unknown}
use Rattle.address_map.proofs.SlotOrder.{list-set}
use Rattle.address_map.proofs.map.AddressMap.replace.Goals as goal

pub returns-in_err-slot-clause-entries : goal.returns-in_err-slot-clause-entries
returns-in_err-slot-clause-entries g c =
    let none : value_of c.args.addr c.args.self.now ≡ None = ap (value_of c.args.addr) (sym c.self.view_is ∙ ap entries_in (sym c.as_slice.ensures.value)) ∙ c.in_err-slot.ensures.unknown in
    sym (set_value-unknown c.args.addr c.args.value c.args.self.now none)

pub index_mut-requires : goal.index_mut-requires
index_mut-requires g c =
    let at : IsAt c.args.addr c.self.inside.slots.items c.in_ok-slot.slot c.in_ok-slot.before = subst (λ (s : Slots _). IsAt c.args.addr s c.in_ok-slot.slot c.in_ok-slot.before) c.as_slice.ensures.value c.in_ok-slot.ensures.known in
    let within = slice_get_within c.self.inside.slots.items c.in_ok-slot.slot (Some (c.args.addr, c.in_ok-slot.before)) at.slot in
    omega (arith, within)

pub invariant_of-self : goal.invariant_of-self
invariant_of-self g c =
    let at : IsAt c.args.addr c.self.inside.slots.items c.in_ok-slot.slot c.in_ok-slot.before = subst (λ (s : Slots _). IsAt c.args.addr s c.in_ok-slot.slot c.in_ok-slot.before) c.as_slice.ensures.value c.in_ok-slot.ensures.known in
    let put : c.put_value.new.slot ≡ Some (c.args.addr, c.args.value) = put-at c.args.addr c.self.inside.slots.items c.in_ok-slot.slot c.in_ok-slot.before c.args.value c.index_mut.result.now c.put_value.new.slot at c.index_mut.ensures.value c.put_value.ensures in
    subst (λ x. IsAddressMap c.self.inside.index.entries (set c.self.inside.slots.items c.in_ok-slot.slot x) c.self.inside.holes c.self.inside.order.row.items c.self.inside.order.gone.items) (sym put)
    (list-set c.self.inside.index.entries c.self.inside.slots.items c.self.inside.holes c.self.inside.order.row.items c.self.inside.order.gone.items c.args.addr c.in_ok-slot.slot c.in_ok-slot.before c.args.value c.self.invariant at)

pub returns-clause-entries : goal.returns-clause-entries
returns-clause-entries g c =
    let at : IsAt c.args.addr c.self.inside.slots.items c.in_ok-slot.slot c.in_ok-slot.before = subst (λ (s : Slots _). IsAt c.args.addr s c.in_ok-slot.slot c.in_ok-slot.before) c.as_slice.ensures.value c.in_ok-slot.ensures.known in
    let put : c.put_value.new.slot ≡ Some (c.args.addr, c.args.value) = put-at c.args.addr c.self.inside.slots.items c.in_ok-slot.slot c.in_ok-slot.before c.args.value c.index_mut.result.now c.put_value.new.slot at c.index_mut.ensures.value c.put_value.ensures in
    ap (λ x. entries_in (set c.self.inside.slots.items c.in_ok-slot.slot x)) put ∙ entries-set c.args.addr c.args.value c.self.inside.slots.items c.in_ok-slot.slot at.place ∙ ap (λ (t : Entries _). set_value (bytes_eq c.args.addr) t c.args.value) c.self.view_is
