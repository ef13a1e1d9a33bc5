use Rattle.std.proofs.Common.{◌≡◌, [], length}
use Rattle.ap_config.specs.declared.config.RadioConfig.{RadioConfig}
use Rattle.trace.specs.Pieces.{AreTakenSoFar}
use Rattle.replay.specs.Stream.{seen}
use Rattle.replay.proofs.StreamSteps.{SoFar}
use Rattle.replay.proofs.run.stream.take_stream.Given as goal

abbrev pub invariant-loop : goal.invariant-loop
invariant-loop g l = record {
  so_far :
      (c : RadioConfig)
      → AreTakenSoFar c [] l.initial.lines (λ said. g.T.TakeLines.has_taken c said l.initial.networks)
      → SoFar c
      (seen (g.R.Source.left l.initial.source) (g.R.Source.failed l.initial.source) (g.R.Source.reads l.initial.source))
      (seen (g.R.Source.left l.source) (g.R.Source.failed l.source) (g.R.Source.reads l.source))
      l.counter l.lines (λ said. g.T.TakeLines.has_taken c said l.networks);
  none_failed : g.R.Source.failed l.source ≡ g.R.Source.failed l.initial.source;
  whole : length l.buffer ≡ 4096;
}
