use Rattle.std.proofs.Common.{◌≡◌, ◌++◌, length}
use Rattle.workers.specs.Ending.{items_at}
use Rattle.workers.proofs.finish.end_network.Given as goal

abbrev pub invariant-loop-octets : goal.invariant-loop-octets
invariant-loop-octets l = record {
  moved :
      l.waited.items ++ items_at l.place l.network.waiting
      ≡ l.initial.waited.items ++ items_at l.place l.initial.network.waiting;
  air : l.air.items ++ l.network.waiting ≡ l.initial.air.items ++ l.initial.network.waiting;
  setting : l.network.setting ≡ l.initial.network.setting;
  history : l.network.history ≡ l.initial.network.history;
}

abbrev pub decreases-loop-octets : goal.decreases-loop-octets
decreases-loop-octets l = length l.network.waiting
