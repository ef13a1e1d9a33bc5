use Rattle.std.proofs.Common.{◌≡◌, ◌≤◌, length, drop}
use Rattle.address_hash.specs.AddressHash.{number_of}
use Rattle.address_hash.proofs.number_of.Given as goal

-- the octets from here on
abbrev pub invariant-loop-left : goal.invariant-loop-left
invariant-loop-left l = (l.left ≤ length l.bytes) × (l.number ≡ number_of (drop l.left l.bytes))

abbrev pub decreases-loop-left : goal.decreases-loop-left
decreases-loop-left l = l.left
