-- The networks before the place took the line, and the others are as they were.
use Rattle.std.proofs.Common.{◌≡◌, map}
use Rattle.events.specs.LentEvents.{line_of}
use Rattle.networks.proofs.TakeSteps.{TakesSoFar}
use Rattle.networks.proofs.dispatch.take_line.Given as goal

abbrev pub invariant-loop-place : goal.invariant-loop-place
invariant-loop-place g l = record {
  taken : TakesSoFar g.N.Addressed.bssid (g.D.Deliver.delivers l.how) (line_of l.fn.line) l.place l.initial.networks l.networks
      l.initial.out l.out;
  ready : g.D.Deliver.is_ready l.out;
  addresses : map g.N.Addressed.bssid l.networks ≡ map g.N.Addressed.bssid l.initial.networks;
}
