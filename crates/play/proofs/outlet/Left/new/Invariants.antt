use Rattle.std.proofs.Common.{◌≡◌, ◌≤◌, ℕ, [], get_or, vec_len}
use Rattle.std.specs.Prelude.{vec_capacity}
use Rattle.play.proofs.outlet.Left.new.Given as goal

-- as many logs as were counted, without a frame
abbrev pub invariant-loop : goal.invariant-loop
invariant-loop l = record {
  none : (place : ℕ) → get_or l.logs.items place [] ≡ [];
  count : vec_len l.logs ≡ l.counter;
  room : l.networks ≤ vec_capacity l.logs;
}
