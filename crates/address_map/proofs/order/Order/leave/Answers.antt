use Rattle.std.proofs.Common.{◌≡◌, ◌<◌, ℕ, List, length, filter, slice_get, Some, is_some, ap, subst, sym, ◌∙◌, arith}
use Rattle.std.proofs.lemmas.Option.{slice_get_within}
use Rattle.address_map.specs.Slots.{listed, slot_at, IsListed, Rises}
use Rattle.address_map.proofs.SlotOrder.{holes-rise, order-noted, order-cleared, some-filtered}
use Rattle.address_map.proofs.order.Order.leave.Goals as goal

pub returns-then-not-note : goal.returns-then-not-note
returns-then-not-note g c before t l some =
    let row : List ℕ = c.args.self.now.row.items in
    let kept : c.list_entries.new.self.row.items ≡ filter (λ slot. is_some (slot_at c.args.slots.now slot)) row = c.list_entries.ensures.row ∙ ap (λ r. filter (λ slot. is_some (slot_at c.args.slots.now slot)) r.items) c.note.ensures.row in
    let long : 0 < length row = some-filtered (λ slot. is_some (slot_at c.args.slots.now slot)) row (subst (λ r. 0 < length r) kept some) in
    order-cleared row c.args.self.now.gone.items c.list_entries.new.self.row.items c.list_entries.new.self.gone.items before c.args.slots.now c.args.slot kept c.list_entries.ensures.gone t (l long)

pub returns-then-len-ge-MOST_GONE : goal.returns-then-len-ge-MOST_GONE
returns-then-len-ge-MOST_GONE g c before t l some =
    let row : List ℕ = c.args.self.now.row.items in
    let at : ℕ = c.partition_point-at.result in
    let there : slice_get row at ≡ Some c.args.slot = c.note.ensures.place c.if-not-note.false in
    let within = slice_get_within row at c.args.slot there in
    let long : 0 < length row = omega (arith, within) in
    c.drop_gone.ensures
    (subst (λ r. IsListed r.items c.note.new.self.gone.items c.args.slots.now) (sym c.note.ensures.row)
    (order-noted row c.args.self.now.gone.items c.note.new.self.gone.items before c.args.slots.now at c.args.slot there (c.note.ensures.noted c.if-not-note.false (subst (Rises 0) (sym (l long).places) (holes-rise 0 (listed row before)))) t (l long)))

pub returns-else-len-ge-MOST_GONE : goal.returns-else-len-ge-MOST_GONE
returns-else-len-ge-MOST_GONE g c before t l some =
    let row : List ℕ = c.args.self.now.row.items in
    let at : ℕ = c.partition_point-at.result in
    let there : slice_get row at ≡ Some c.args.slot = c.note.ensures.place c.if-not-note.false in
    let within = slice_get_within row at c.args.slot there in
    let long : 0 < length row = omega (arith, within) in
    subst (λ r. IsListed r.items c.note.new.self.gone.items c.args.slots.now) (sym c.note.ensures.row)
    (order-noted row c.args.self.now.gone.items c.note.new.self.gone.items before c.args.slots.now at c.args.slot there (c.note.ensures.noted c.if-not-note.false (subst (Rises 0) (sym (l long).places) (holes-rise 0 (listed row before)))) t (l long))
