-- What was read is answered, and neither a read nor a write failed.
use Rattle.std.proofs.Common.{◌≡◌}
use Rattle.live.specs.Inputs.{face_of}
use Rattle.live.specs.Run.{progress, seen, streams}
use Rattle.live.proofs.RunSteps.{InputSoFar}
use Rattle.live.proofs.run.answer_input.Given as goal

abbrev pub invariant-loop : goal.invariant-loop
invariant-loop g l = record {
  so_far :
      InputSoFar (face_of l.initial.live.partial) l.counter
      (progress l.initial.live
      (streams (seen (g.R.Source.left l.initial.input) (g.R.Source.failed l.initial.input) (g.R.Source.reads l.initial.input))
      (g.W.Sink.taken l.initial.out)
      (g.W.Sink.failed l.initial.out)))
      (progress l.live
      (streams (seen (g.R.Source.left l.input) (g.R.Source.failed l.input) (g.R.Source.reads l.input)) (g.W.Sink.taken l.out)
      (g.W.Sink.failed l.out)));
  none_failed : g.R.Source.failed l.input ≡ g.R.Source.failed l.initial.input;
  all_written : g.W.Sink.failed l.out ≡ g.W.Sink.failed l.initial.out;
}
