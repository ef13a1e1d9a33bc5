use Rattle.std.proofs.Common.{◌≡◌, ◌≤◌, ◌-◌, vec_len, vec_capacity}
use Rattle.crossbeam_queue.specs.Passes.{IsPassOf, view}
use Rattle.events.specs.Lists.{IsPrefix}
use Rattle.air_queue.specs.Rule.{IsRadioWith, networks_of, taken_in_of}
use Rattle.air_queue.proofs.ending.drain.Given as goal

abbrev pub invariant-loop-queue_pass : goal.invariant-loop-queue_pass
invariant-loop-queue_pass g l = record {
  queue : IsPassOf l.queue l.queue_pass;
  radio : IsRadioWith l.left.items (view l.queue_pass);
  networks : (networks_of (view l.queue_pass) ≡ networks_of (view l.fn.queue_pass)) × (taken_in_of (view l.queue_pass) ≡ taken_in_of (view l.fn.queue_pass));
  begins : IsPrefix l.fn.left.items l.left.items;
  few : vec_len l.left ≤ l.all;
  room : l.all ≤ vec_capacity l.left;
}

abbrev pub decreases-loop-queue_pass : goal.decreases-loop-queue_pass
decreases-loop-queue_pass g l = l.all - vec_len l.left
