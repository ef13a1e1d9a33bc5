use Rattle.events.specs.LentEvents.{line_of}
use Rattle.replay.specs.Replay.{IsDrained}
use Rattle.replay.proofs.LineSteps.{TakesBelow}
use Rattle.replay.proofs.model.drained_radio.DrainedRadio.take_line.Given as goal

abbrev pub invariant-loop-place : goal.invariant-loop-place
invariant-loop-place l = record {
  drained : IsDrained l.self.radio l.self.sent;
  taken : TakesBelow l.place (line_of l.line) l.initial.self.radio l.self.radio;
}
