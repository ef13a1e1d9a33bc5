use Rattle.std.proofs.Common.{◌≡◌, ◌≤◌, length}
use Rattle.tim.specs.Tim.{up_to_last}
use Rattle.tim.proofs.bitmap.up_to_last.Given as goal

abbrev pub invariant-loop-octets : goal.invariant-loop-octets
invariant-loop-octets l = (length l.octets ≤ length l.fn.octets) × (up_to_last l.octets ≡ up_to_last l.fn.octets)

abbrev pub decreases-loop-octets : goal.decreases-loop-octets
decreases-loop-octets l = length l.octets
