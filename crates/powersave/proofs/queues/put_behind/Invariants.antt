use Rattle.std.proofs.Common.{◌≡◌, ◌++◌, take, drop}
use Rattle.powersave.specs.Queues.{numbered_from, units_of}
use Rattle.powersave.proofs.queues.put_behind.Given as goal

-- the first units stand last, with their new numbers
abbrev pub invariant-loop-place : goal.invariant-loop-place
invariant-loop-place l = record {
  items : l.queue.items ≡ drop l.place l.fn.queue.items ++ numbered_from l.first (units_of (take l.place l.fn.queue.items));
  len : l.queue.len ≡ l.fn.queue.len;
  capacity : l.queue.cap ≡ l.fn.queue.cap;
}
