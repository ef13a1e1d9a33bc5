use Rattle.std.proofs.Common.{◌≡◌}
use Rattle.air_queue_tests.proofs.tests.push_in_time.Given as goal

abbrev pub invariant-loop : goal.invariant-loop
invariant-loop g l = record {
  name : l.pass.name ≡ l.fn.pass.name;
  place : l.pass.place ≡ l.fn.pass.place;
  item : l.item.place ≡ l.fn.item.place;
}
