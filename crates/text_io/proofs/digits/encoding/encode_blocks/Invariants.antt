use Rattle.std.proofs.Common.{ℕ, ◌-◌, ◌<◌}
use Rattle.text_io.specs.Pairs.{SpellsAt}
use Rattle.text_io.proofs.digits.encoding.encode_blocks.Given as goal

abbrev pub invariant-loop-at : goal.invariant-loop-at
invariant-loop-at l = (k : ℕ) → k < l.at → SpellsAt l.octets l.text k

abbrev pub decreases-loop-at : goal.decreases-loop-at
decreases-loop-at l = l.last - l.at
