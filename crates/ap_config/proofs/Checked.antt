-- Networks in which no fault is found have none by themselves.
use Rattle.std.proofs.Common.{◌≡◌, ℕ, Bool, true, false, not, ◌++◌, List, [], ◌∷◌, length, Option, Some, None, if◌then◌else◌, refl}
use Rattle.std.specs.List.{AllByRecursion}
use Rattle.ap_config.specs.Configuration.{channel_fits, interval_fits, queue_fits, count_fits, of_radio, network_fault, is_taken, fault_among, fault_at, networks_fault, fault_of}
use Rattle.ap_config.specs.declared.config.NetConfig.{NetConfig}
use Rattle.ap_config.specs.declared.config.RadioConfig.{RadioConfig}
use Rattle.ap_config.specs.declared.config.ConfigFault.{ConfigFault}

-- a test that found nothing leaves the rest
rest_is_none : {A : Type 0} (b : Bool) (fault : A) (rest : Option A) → (if b then Some fault else rest) ≡ None → rest ≡ None
rest_is_none true fault rest h = absurd (cc)
rest_is_none false fault rest h = h

-- no fault of a network, and none after it
none_at : (place : ℕ) (fault : Option ℕ) (later : Option ConfigFault) → fault_at place fault later ≡ None → (fault ≡ None) × (later ≡ None)
none_at place (Some code) later h = absurd (cc)
none_at place None later h = (refl, h)

all_sound : (earlier networks : List NetConfig) → networks_fault earlier networks ≡ None → AllByRecursion (λ n. network_fault n ≡ None) networks
all_sound earlier [] h = tt
all_sound earlier (n ∷ ns) h =
    let parts = none_at (length earlier) (fault_among earlier n) (networks_fault (earlier ++ n ∷ []) ns) h in
    (rest_is_none (is_taken earlier n.bssid) 8 (network_fault n) parts.0, all_sound (earlier ++ n ∷ []) ns parts.1)

pub networks_sound : (c : RadioConfig) → fault_of c ≡ None → AllByRecursion (λ n. network_fault n ≡ None) c.networks
networks_sound c h =
    let channel = rest_is_none (not (channel_fits c.channel)) (of_radio 4) _ h in
    let interval = rest_is_none (not (interval_fits c.interval)) (of_radio 5) _ channel in
    let queue = rest_is_none (not (queue_fits c.queue)) (of_radio 6) _ interval in
    let count = rest_is_none (not (count_fits (length c.networks))) (of_radio 7) _ queue in
    all_sound [] c.networks count
