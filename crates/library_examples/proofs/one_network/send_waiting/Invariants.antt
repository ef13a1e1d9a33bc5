use Rattle.std.proofs.Common.{◌≡◌, ◌++◌, length}
use Rattle.library_examples.proofs.one_network.send_waiting.Given as goal

abbrev pub invariant-loop-frame : goal.invariant-loop-frame
invariant-loop-frame l = record {
  moved : l.sent.items ++ l.network.waiting ≡ l.initial.sent.items ++ l.initial.network.waiting;
  setting : l.network.setting ≡ l.initial.network.setting;
  history : l.network.history ≡ l.initial.network.history;
}

abbrev pub decreases-loop-frame : goal.decreases-loop-frame
decreases-loop-frame l = length l.network.waiting
