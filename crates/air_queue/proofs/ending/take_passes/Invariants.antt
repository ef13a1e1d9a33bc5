use Rattle.std.proofs.Common.{◌≡◌}
use Rattle.std.specs.List.{AllByRecursion}
use Rattle.std.specs.Vec.Iter.{into_iter_items}
use Rattle.crossbeam_queue.specs.Passes.{IsSamePass, view}
use Rattle.air_queue.specs.Rule.{IsRadio, after_taking}
use Rattle.air_queue.proofs.ending.take_passes.Given as goal

abbrev pub invariant-loop-net : goal.invariant-loop-net
invariant-loop-net l = record {
  same : IsSamePass l.fn.queue_pass l.queue_pass;
  radio : IsRadio (view l.queue_pass);
  named : AllByRecursion (λ pass. pass.name ≡ l.queue.table.shared.table_id) (into_iter_items l.net-iterator);
  taken : after_taking (view l.queue_pass) (into_iter_items l.net-iterator) ≡ after_taking (view l.fn.queue_pass) l.fn.nets.items;
}
