use Rattle.std.proofs.Common.{◌≡◌, ◌+◌, length}
use Rattle.workers.proofs.seat.Seat.hand_all.Given as goal

abbrev pub invariant-loop-count : goal.invariant-loop-count
invariant-loop-count g l = record {
  history : l.self.network.history ≡ l.initial.self.network.history;
  count : l.count + length l.self.network.waiting ≡ length l.initial.self.network.waiting;
}
