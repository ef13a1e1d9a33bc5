use Rattle.std.proofs.Common.{◌≡◌}
use Rattle.air_queue_tests.proofs.tests.pop_all.Given as goal

abbrev pub invariant-loop : goal.invariant-loop
invariant-loop g l = (l.radio.name ≡ l.fn.radio.name) × (l.radio.networks ≡ l.fn.radio.networks) × (l.radio.taken_in ≡ l.fn.radio.taken_in)
