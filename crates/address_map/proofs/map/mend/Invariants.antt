use Rattle.std.proofs.Common.{◌≡◌, ◌++◌, take, drop}
use Rattle.address_map.specs.Slots.{with_places}
use Rattle.address_map.proofs.map.mend.Given as goal

-- so many have their places, and the others their slots
abbrev pub invariant-loop-at : goal.invariant-loop-at
invariant-loop-at l = l.index.entries ≡ with_places l.row (take l.at l.fn.index.entries) ++ drop l.at l.fn.index.entries
