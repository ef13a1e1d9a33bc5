use Rattle.std.proofs.Common.{length, refl, sym, ◌∙◌}
use Rattle.std.proofs.lemmas.Option.{slice_get_read}
use Rattle.address_map.specs.Slots.{Slots}
use Rattle.address_map.proofs.SlotOrder.{slot_at-get, slot_at-beyond}
use Rattle.address_map.proofs.order.entry_in.Goals as goal

pub returns-in_err-get : goal.returns-in_err-get
returns-in_err-get g c = c.from_residual.ensures ∙ sym (slot_at-beyond c.args.slots.now c.args.slot c.in_err-get.ensures.lookup.3)

pub returns : goal.returns
returns g c =
    let slots : Slots _ = c.args.slots.now in
    let read = c.in_ok-get.ensures.lookup in
    sym (slot_at-get slots c.args.slot c.in_ok-get.field-0.now (slice_get_read slots (length slots) c.args.slot c.in_ok-get.field-0.now refl read.3.0 read.1))
