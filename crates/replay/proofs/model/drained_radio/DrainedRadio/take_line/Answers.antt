use Rattle.std.proofs.Common.{arith}
use Rattle.events.specs.LentEvents.{line_of}
use Rattle.replay.proofs.LineSteps.{takes-all, takes-next}
use Rattle.replay.proofs.model.drained_radio.DrainedRadio.take_line.Goals as goal

pub loop-place-preserved : goal.loop-place-preserved
loop-place-preserved c = record {
  drained = c.in_ok-take_copy.ensures.0;
  taken =
      takes-next c.loop-place.place (line_of c.args.line) _ _ _ c.loop-place.invariant.taken
      c.in_ok-take_copy.ensures.1;
}

pub returns : goal.returns
returns c = (
  c.loop-place.invariant.drained,
  takes-all c.loop-place.place (line_of c.args.line) _ _ c.loop-place.invariant.taken (omega arith),
)
