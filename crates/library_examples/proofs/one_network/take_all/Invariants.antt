use Rattle.std.proofs.Common.{◌≡◌, ◌++◌, []}
use Rattle.std.specs.Vec.Iter.{into_iter_items}
use Rattle.network.specs.BssView.{network_of}
use Rattle.library_examples.proofs.one_network.take_all.Given as goal

-- of the events so far, all frames left
abbrev pub invariant-loop-event : goal.invariant-loop-event
invariant-loop-event l = record {
  history : l.network.history ++ into_iter_items l.event-iterator ≡ l.fn.events.items;
  setting : l.network.setting ≡ l.initial.network.setting;
  waiting : l.network.waiting ≡ [];
  sent : l.sent.items ≡ (network_of l.network).air;
}
