use Rattle.std.proofs.Common.{ℕ, ◌-◌, ◌<◌}
use Rattle.text_io.specs.Pairs.{ReadsAt}
use Rattle.text_io.proofs.digits.decoding.decode_blocks.Given as goal

abbrev pub invariant-loop-at : goal.invariant-loop-at
invariant-loop-at l = (k : ℕ) → k < l.at → ReadsAt l.text l.octets k

abbrev pub decreases-loop-at : goal.decreases-loop-at
decreases-loop-at l = l.last - l.at
