-- The input and the output before the first read are those that are passed.
use Rattle.live.specs.Run.{progress, seen, streams}
use Rattle.live.proofs.live_in.LiveIn.run.Given as goal

abbrev pub ghosts-answer_input : goal.ghosts-answer_input
ghosts-answer_input g a = record {
  first =
      progress a.live.now
      (streams (seen (g.R.Source.left a.input.now) (g.R.Source.failed a.input.now) (g.R.Source.reads a.input.now))
      (g.W.Sink.taken a.out.now)
      (g.W.Sink.failed a.out.now));
}
