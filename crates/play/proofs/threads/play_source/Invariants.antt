use Rattle.std.proofs.Common.{◌-◌, length, ◌≤◌}
use Rattle.play.specs.Lines.{lines_of}
use Rattle.play.proofs.threads.play_source.Given as goal

abbrev pub invariant-loop-first : goal.invariant-loop-first
invariant-loop-first g l = l.first ≤ length (lines_of g.N.PlayName.play.sources l.source.number)

abbrev pub decreases-loop-first : goal.decreases-loop-first
decreases-loop-first g l = length (lines_of g.N.PlayName.play.sources l.source.number) - l.first
