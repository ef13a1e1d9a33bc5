use Rattle.std.proofs.Common.{◌≡◌, ◌+◌, ◌≤◌, ◌++◌, length}
use Rattle.std.specs.Vec.Iter.{into_iter_items}
use Rattle.std.specs.VecDeque.{deque_len, deque_capacity}
use Rattle.network.proofs.reply.frames.Frames.append_to.Given as goal

abbrev pub invariant-loop-frame : goal.invariant-loop-frame
invariant-loop-frame l = record {
  frames : l.waiting.items ++ into_iter_items l.frame-iterator ≡ l.fn.waiting.items ++ l.fn.self;
  room : deque_len l.waiting + length (into_iter_items l.frame-iterator) ≤ deque_capacity l.waiting;
}
