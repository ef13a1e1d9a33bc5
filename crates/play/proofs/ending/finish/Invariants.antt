use Rattle.std.proofs.Common.{◌≡◌, length}
use Rattle.play.proofs.Ended.{AreEnded}
use Rattle.play.proofs.ending.finish.Given as goal

-- the first sections are those of the first networks
abbrev pub invariant-loop-place : goal.invariant-loop-place
invariant-loop-place g l = record {
  ended : AreEnded g.N.PlayName.play l.fn.left.logs.items l.sections.items l.givers.items;
  count : length l.sections.items ≡ l.place;
}
