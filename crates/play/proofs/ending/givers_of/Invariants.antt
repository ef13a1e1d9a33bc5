use Rattle.std.proofs.Common.{◌≡◌, map, take}
use Rattle.play.proofs.ending.givers_of.Given as goal

abbrev pub invariant-loop-by : goal.invariant-loop-by
invariant-loop-by l = l.givers.items ≡ map (λ g. g.source) (take l.by-index l.given)
