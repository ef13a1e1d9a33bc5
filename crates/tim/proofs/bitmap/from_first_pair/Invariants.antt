use Rattle.std.proofs.Common.{◌≡◌, ◌+◌, ◌*◌, ◌≤◌, length}
use Rattle.tim.specs.Tim.{from_first_pair}
use Rattle.tim.proofs.bitmap.from_first_pair.Given as goal

abbrev pub invariant-loop-octets : goal.invariant-loop-octets
invariant-loop-octets l =
    (2 * l.passed + length l.octets ≤ 251) × (from_first_pair l.passed l.octets ≡ from_first_pair 0 l.fn.octets)

abbrev pub decreases-loop-octets : goal.decreases-loop-octets
decreases-loop-octets l = length l.octets
