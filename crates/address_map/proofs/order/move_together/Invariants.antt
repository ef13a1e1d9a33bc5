use Rattle.std.proofs.Common.{◌≡◌, ◌≤◌, length, is_some, filter, take, drop}
use Rattle.address_map.specs.Slots.{slot_at}
use Rattle.address_map.proofs.order.move_together.Given as goal

-- those that are kept are those of the slots before the place that have an entry; from the place on, nothing moved
abbrev pub invariant-loop-place : goal.invariant-loop-place
invariant-loop-place g l = record {
  len : length l.row ≡ length l.fn.row;
  few : l.kept ≤ l.place;
  done : filter (λ slot. is_some (slot_at l.slots slot)) (take l.first l.fn.row) ≡ take l.first l.fn.row
      → take l.kept l.row ≡ filter (λ slot. is_some (slot_at l.slots slot)) (take l.place l.fn.row);
  rest : drop l.place l.row ≡ drop l.place l.fn.row;
}
