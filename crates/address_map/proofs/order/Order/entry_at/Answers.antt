use Rattle.std.proofs.Common.{◌≡◌, ◌<◌, ◌≤◌, ℕ, List, Some, length, slice_get, refl, sym, ap, subst, ◌∙◌, arith}
use Rattle.std.proofs.lemmas.Option.{slice_get_read}
use Rattle.address_map.specs.Slots.{Slots, listed, slot_at, past, Rises}
use Rattle.address_map.proofs.SlotOrder.{holes-rise, order-at, order-few, listed-get, listed-len, slot_at-get, slot_at-beyond}
use Rattle.address_map.proofs.order.Order.entry_at.Goals as goal

pub past-requires-clause-few : goal.past-requires-clause-few
past-requires-clause-few g c =
    let some : 0 < length c.args.self.now.row.items = omega (arith, c.if-row-eq0.false, ap length c.as_slice-row.ensures.value) in
    let few = order-few c.args.self.now.row.items c.args.self.now.gone.items c.args.slots.now (c.requires.listed some) in
    let gone = ap length c.as_slice.ensures.value in
    omega (arith, few, gone, c.requires.place, c.as_slice-row.ensures.len, ap length c.as_slice-row.ensures.value)

pub past-requires-clause-rising : goal.past-requires-clause-rising
past-requires-clause-rising g c =
    let some : 0 < length c.args.self.now.row.items = omega (arith, c.if-row-eq0.false, ap length c.as_slice-row.ensures.value) in
    subst (Rises 0) (sym (c.as_slice.ensures.value ∙ (c.requires.listed some).places)) (holes-rise 0 (listed c.args.self.now.row.items c.args.slots.now))

pub returns-in_err-slot : goal.returns-in_err-slot
returns-in_err-slot g c =
    let row : List ℕ = c.args.self.now.row.items in
    let some : 0 < length row = omega (arith, c.if-row-eq0.false, ap length c.as_slice-row.ensures.value) in
    let gone : List ℕ = c.args.self.now.gone.items in
    let slots : Slots _ = c.args.slots.now in
    let at : ℕ = c.past.result in
    let beyond : length (listed row slots) ≤ at = omega (arith, listed-len row slots, c.in_err-slot.ensures.lookup.3, ap length c.as_slice-row.ensures.value) in
    c.from_residual.ensures ∙ sym (slot_at-beyond (listed row slots) at beyond) ∙ order-at row gone slots c.args.place at (c.past.ensures ∙ ap (λ places. past places c.args.place) c.as_slice.ensures.value) (c.requires.listed some)

pub returns : goal.returns
returns g c =
    let row : List ℕ = c.args.self.now.row.items in
    let some : 0 < length row = omega (arith, c.if-row-eq0.false, ap length c.as_slice-row.ensures.value) in
    let gone : List ℕ = c.args.self.now.gone.items in
    let slots : Slots _ = c.args.slots.now in
    let at : ℕ = c.past.result in
    let read = c.in_ok-slot.ensures.lookup in
    let shown : List ℕ = c.as_slice-row.result.now in
    let there : slice_get shown at ≡ Some c.in_ok-slot.field-0.now = slice_get_read shown (length shown) at c.in_ok-slot.field-0.now refl read.3.0 read.1 in
    let found : slice_get row at ≡ Some c.in_ok-slot.field-0.now = ap (λ (r : List ℕ). slice_get r at) (sym c.as_slice-row.ensures.value) ∙ there in
    c.entry_in.ensures ∙ sym (slot_at-get (listed row slots) at (slot_at slots c.in_ok-slot.field-0.now) (listed-get row slots at c.in_ok-slot.field-0.now found))
    ∙ order-at row gone slots c.args.place at (c.past.ensures ∙ ap (λ places. past places c.args.place) c.as_slice.ensures.value) (c.requires.listed some)
