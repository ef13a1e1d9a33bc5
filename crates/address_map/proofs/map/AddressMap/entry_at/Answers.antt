use Rattle.std.proofs.Common.{◌≡◌, length, slice_get, ap, ◌∙◌, arith}
use Rattle.address_map.specs.Slots.{Slots, entries_in, slot_at}
use Rattle.address_map.proofs.SlotOrder.{full-at}
use Rattle.address_map.proofs.map.AddressMap.entry_at.Goals as goal

pub returns-then-self-eq0 : goal.returns-then-self-eq0
returns-then-self-eq0 g c =
    let slots : Slots _ = c.self.inside.slots.items in
    let full : length (entries_in slots) ≡ length slots = omega (arith, c.self.invariant.rest, c.if-self-eq0.true) in
    c.entry_in.ensures ∙ ap (λ (s : Slots _). slot_at s c.args.place) c.as_slice-slots.ensures.value ∙ full-at slots c.args.place full ∙ ap (λ t. slice_get t c.args.place) c.self.view_is
