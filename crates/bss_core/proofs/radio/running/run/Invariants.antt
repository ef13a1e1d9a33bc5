use Rattle.std.proofs.Common.{◌≡◌, take}
use Rattle.bss_core.specs.Radio.{after_steps}
use Rattle.bss_core.specs.Running.{IsAt}
use Rattle.bss_core.proofs.radio.running.run.Given as goal

abbrev pub invariant-loop-step : goal.invariant-loop-step
invariant-loop-step l = record {
  config : l.radio.config ≡ l.fn.config;
  at : IsAt (after_steps l.radio.config (take l.step-index l.steps)) l.radio l.left.items;
}
