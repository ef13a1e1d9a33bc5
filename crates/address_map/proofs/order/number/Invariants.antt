use Rattle.std.proofs.Common.{◌≡◌, length, take}
use Rattle.std.specs.List.{range_with_len}
use Rattle.address_map.proofs.order.number.Given as goal

-- those before it have their places
abbrev pub invariant-loop-place : goal.invariant-loop-place
invariant-loop-place l = record {
  len : length l.row ≡ length l.fn.row;
  done : take l.place l.row ≡ range_with_len 0 l.place;
}
