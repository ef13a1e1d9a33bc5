use Rattle.std.proofs.Common.{◌≡◌, take, drop, []}
use Rattle.ap_config.specs.Configuration.{networks_fault}
use Rattle.ap_config.proofs.checking.networks_fault.Given as goal

abbrev pub invariant-loop-place : goal.invariant-loop-place
invariant-loop-place l = networks_fault (take l.place l.networks) (drop l.place l.networks) ≡ networks_fault [] l.networks
