use Rattle.std.proofs.Common.{◌≡◌, length}
use Rattle.ap_config.specs.Configuration.{are_different}
use Rattle.ap_config.proofs.checking.are_different.Given as goal

abbrev pub invariant-loop-first : goal.invariant-loop-first
invariant-loop-first l = are_different l.rest ≡ are_different l.rates

abbrev pub decreases-loop-first : goal.decreases-loop-first
decreases-loop-first l = length l.rest
