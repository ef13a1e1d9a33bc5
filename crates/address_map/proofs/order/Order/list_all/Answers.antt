use Rattle.std.proofs.Common.{◌≡◌, ℕ, List, [], length, min, filter, is_some, ap, subst, sym, ◌∙◌, arith}
use Rattle.std.specs.List.{range_with_len}
use Rattle.address_map.specs.Slots.{Slots, slot_at, IsListed}
use Rattle.address_map.proofs.SlotOrder.{order-all}
use Rattle.address_map.proofs.order.Order.list_all.Goals as goal

pub returns : goal.returns
returns g c some =
    let slots : Slots _ = c.args.slots.now in
    let row : List ℕ = c.list_entries.new.self.row.items in
    let long : min (length slots) (length c.resize.new.self.items) ≡ length slots = omega (arith, c.in_ok-resize.ensures.len) in
    let kept : row ≡ filter (λ i. is_some (slot_at slots i)) (range_with_len 0 (length slots)) = c.list_entries.ensures.row ∙ ap (filter (λ i. is_some (slot_at slots i))) (c.number.ensures.row ∙ ap (range_with_len 0) long) in
    subst (λ g. IsListed row g slots) (sym c.list_entries.ensures.gone)
    (subst (λ r. IsListed r [] slots) (sym kept) (order-all slots))
