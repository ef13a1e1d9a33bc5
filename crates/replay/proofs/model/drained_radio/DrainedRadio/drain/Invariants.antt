use Rattle.std.proofs.Common.{length}
use Rattle.bss_core.specs.RadioView.{view_at}
use Rattle.replay.proofs.DrainSteps.{Drains}
use Rattle.replay.proofs.model.drained_radio.DrainedRadio.drain.Given as goal

abbrev pub invariant-loop : goal.invariant-loop
invariant-loop l = Drains l.place l.initial.self l.self

abbrev pub decreases-loop : goal.decreases-loop
decreases-loop l = length (view_at l.self.radio l.place).waiting
