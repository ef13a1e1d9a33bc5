use Rattle.std.proofs.Common.{◌≡◌, drop, slice_get}
use Rattle.address_map.specs.Slots.{entries_in}
use Rattle.address_map.proofs.order.nth.Given as goal

-- the entry is that number among those that are left
abbrev pub invariant-loop-slot : goal.invariant-loop-slot
invariant-loop-slot g l = slice_get (entries_in (drop l.slot-index l.slots)) l.left ≡ slice_get (entries_in l.slots) l.n
