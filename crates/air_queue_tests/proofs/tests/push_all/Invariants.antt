use Rattle.std.proofs.Common.{◌≡◌}
use Rattle.air_queue_tests.proofs.tests.push_all.Given as goal

abbrev pub invariant-loop-octet : goal.invariant-loop-octet
invariant-loop-octet g l = (l.pass.name ≡ l.fn.pass.name) × (l.pass.place ≡ l.fn.pass.place)
