use Rattle.std.proofs.Common.{◌≡◌, ◌++◌, map}
use Rattle.std.specs.Prelude.{All}
use Rattle.std.specs.List.{AllByRecursion}
use Rattle.std.specs.Vec.Iter.{into_iter_items}
use Rattle.air_queue.specs.Passes.{NetPassView}
use Rattle.air_queue_tests.proofs.tests.push_each.Given as goal

-- the passes that were pushed with and those to come are those that were given
abbrev pub invariant-loop-pass : goal.invariant-loop-pass
invariant-loop-pass g l = record {
  coming : AllByRecursion (λ (pass : NetPassView). pass.name ≡ l.queue.name) (into_iter_items l.pass-iterator);
  named : All (λ (pass : NetPassView). pass.name ≡ l.queue.name) l.back.items;
  placed :
      map (λ (pass : NetPassView). pass.place) (l.back.items ++ into_iter_items l.pass-iterator)
      ≡ map (λ (pass : NetPassView). pass.place) l.fn.nets.items;
}
