-- Two radios that have a network in common, whatever else they have and whatever else happens to them (profile).
use Rattle.std.specs.Prelude.{ℕ, ◌<◌, ◌≡◌, ◌⊎◌, List, length}
use Rattle.events.specs.Lists.{IsPrefix}
use Rattle.ap_config.specs.Places.{network_at}
use Rattle.bss_core.specs.Radio.{part_of}
use Rattle.ap_config.specs.declared.config.RadioConfig.{RadioConfig}
use Rattle.bss_core.specs.declared.radio.step.Step.{Step}

-- The network at place p of one radio, and the one at place q of another, have the same configuration, channel and
-- interval, and the same events among the steps of their radio. The queues, the places, the other networks and the
-- other steps may differ.
pub record AreAlike (c d : RadioConfig) (steps others : List Step) (p q : ℕ) : Type 0 where
  pub here : p < length c.networks
  pub there : q < length d.networks
  pub channel : c.channel ≡ d.channel
  pub interval : c.interval ≡ d.interval
  pub network : network_at c p ≡ network_at d q
  pub events : part_of c p steps ≡ part_of d q others

-- one of two lists begins with the other: they were cut at different moments
abbrev pub AreCutFromOne : List (List ℕ) → List (List ℕ) → Type 0
AreCutFromOne xs ys = IsPrefix xs ys ⊎ IsPrefix ys xs
