-- The seats of an access point that starts.
use Rattle.std.proofs.Common.{◌≡◌, ℕ, suc, ◌+◌, ◌<◌, List, [], ◌∷◌, length, map, get_or, None, refl, ap, ◌∙◌, arith}
use Rattle.std.specs.List.{AllByRecursion, range_with_len, zip}
use Rattle.air_queue.specs.Passes.{QueueName, NetPassView, fresh_pass, fresh_passes}
use Rattle.ap_config.specs.Configuration.{network_fault}
use Rattle.network.specs.Network.{alone}
use Rattle.ap_config.specs.Places.{no_network, network_at, setting_in}
use Rattle.network.specs.BssView.{opened}
use Rattle.ap_config.specs.declared.config.NetConfig.{NetConfig}
use Rattle.ap_config.specs.declared.config.RadioConfig.{RadioConfig}
use Rattle.workers.specs.Seats.{IsSeated}

-- a network that took no event, with a pass by which nothing was pushed
seated-new : (config : RadioConfig) (queue : QueueName) (place : ℕ) (n : NetConfig) → place < length config.networks → n ≡ network_at config place → IsSeated config queue (opened config.channel config.interval n) (fresh_pass queue place)
unfolding alone
seated-new config queue place n within is = record {
  named = refl;
  placed = within;
  setting = ap (setting_in config) is;
  bounded = omega arith;
  sent = refl;
}

-- what each network and its pass are when they are seated
abbrev pub IsReady : RadioConfig → QueueName → NetConfig × NetPassView → Type 0
IsReady config queue p =
    (network_fault p.0 ≡ None) × IsSeated config queue (opened config.channel config.interval p.0) p.1

ready_from : (config : RadioConfig) (queue : QueueName) (place : ℕ) (networks : List NetConfig) → place + length networks ≡ length config.networks → ((i : ℕ) → i < length networks → get_or networks i no_network ≡ network_at config (place + i)) → AllByRecursion (λ n. network_fault n ≡ None) networks → AllByRecursion (IsReady config queue) (zip networks (map (fresh_pass queue) (range_with_len place (length networks))))
ready_from config queue place [] count same sound = tt
ready_from config queue place (n ∷ ns) count same sound =
    let here : place + 0 ≡ place = omega arith in
    let within : place < length config.networks = omega (arith, count) in
    let some : 0 < length (n ∷ ns) = omega arith in
    let is : n ≡ network_at config place = same 0 some ∙ ap (network_at config) here in
    let next : place + 1 + length ns ≡ length config.networks = omega (arith, count) in
    let rest : (i : ℕ) → i < length ns → get_or ns i no_network ≡ network_at config (place + 1 + i) = λ i lt. (
    let more : suc i < length (n ∷ ns) = omega (arith, lt) in
    let at : place + suc i ≡ place + 1 + i = omega arith in
    same (suc i) more ∙ ap (network_at config) at
    ) in
    ((sound.0, seated-new config queue place n within is), ready_from config queue (place + 1) ns next rest sound.1)

pub all_ready : (config : RadioConfig) (queue : QueueName) → AllByRecursion (λ n. network_fault n ≡ None) config.networks → AllByRecursion (IsReady config queue) (zip config.networks (fresh_passes queue (length config.networks)))
all_ready config queue sound =
    let count : 0 + length config.networks ≡ length config.networks = omega arith in
    ready_from config queue 0 config.networks count (λ i lt. (let at : i ≡ 0 + i = omega arith in ap (network_at config) at)) sound

-- each network has a pass
count_from : (queue : QueueName) (place : ℕ) (networks : List NetConfig) → length (zip networks (map (fresh_pass queue) (range_with_len place (length networks)))) ≡ length networks
count_from queue place [] = refl
count_from queue place (n ∷ ns) = ap suc (count_from queue (place + 1) ns)

pub count_ready : (queue : QueueName) (networks : List NetConfig) → length (zip networks (fresh_passes queue (length networks))) ≡ length networks
count_ready queue networks = count_from queue 0 networks

-- where one list is empty, no pairs are left
pub none_first : {A B : Type 0} (xs : List A) (ys : List B) → length xs ≡ 0 → length (zip xs ys) ≡ 0
none_first [] ys none = refl
none_first (x ∷ xs) ys none = absurd (omega (arith, none))

pub none_second : {A B : Type 0} (xs : List A) (ys : List B) → length ys ≡ 0 → length (zip xs ys) ≡ 0
none_second [] ys none = refl
none_second (x ∷ xs) [] none = refl
none_second (x ∷ xs) (y ∷ ys) none = absurd (omega (arith, none))
