use Rattle.std.proofs.Common.{◌≡◌}
use Rattle.library_examples.specs.Others.{OthersStay}
use Rattle.library_examples.proofs.radio.send_waiting.Given as goal

abbrev pub invariant-loop : goal.invariant-loop
invariant-loop l = record {
  config : l.radio.config ≡ l.initial.radio.config;
  others : OthersStay l.place l.initial.radio l.radio;
}
