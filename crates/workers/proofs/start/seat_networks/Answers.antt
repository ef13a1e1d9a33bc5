use Rattle.std.proofs.Common.{◌≡◌, List, length, inl, inr, sym, ap, subst, ◌∙◌, arith, rules}
use Rattle.std.specs.List.{AllByRecursion, zip}
use Rattle.std.specs.Vec.Iter.{into_iter_items}
use Rattle.air_queue.specs.Passes.{NetPassView, fresh_passes}
use Rattle.ap_config.specs.declared.config.NetConfig.{NetConfig}
use Rattle.ap_config.specs.declared.config.RadioConfig.{RadioConfig}
use Rattle.workers.proofs.Starting.{IsReady, all_ready, count_ready, none_first, none_second}
use Rattle.workers.proofs.start.seat_networks.Goals as goal

pub loop-network-init : goal.loop-network-init
loop-network-init g c =
    let config : RadioConfig = c.args.config in
    let queue = g.N.ApName.queue in
    let first : into_iter_items c.into_iter-network-iterator.result.a ≡ c.into_vec.result.items = search rules in
    let second : into_iter_items c.into_iter-network-iterator.result.b ≡ c.args.nets.items = search rules in
    let networks : into_iter_items c.into_iter-network-iterator.result.a ≡ config.networks = first ∙ c.into_vec.ensures in
    let passes : into_iter_items c.into_iter-network-iterator.result.b ≡ fresh_passes queue (length config.networks) = second ∙ c.requires.nets in
    let none = c.new-seats.ensures.len in
    let same : length (zip (into_iter_items c.into_iter-network-iterator.result.a) (into_iter_items c.into_iter-network-iterator.result.b)) ≡ length (zip config.networks (fresh_passes queue (length config.networks))) = λ k. length (zip (networks k) (passes k)) in
    let pairs = count_ready queue config.networks in
    let all = ap (λ (d : RadioConfig). length d.networks) c.requires.config in
    record {
      ready = subst (λ (d : RadioConfig). AllByRecursion (IsReady d queue) (zip (into_iter_items c.into_iter-network-iterator.result.a) (into_iter_items c.into_iter-network-iterator.result.b))) c.requires.config
          (subst (λ (x : List NetConfig × List NetPassView). AllByRecursion (IsReady config queue) (zip x.0 x.1)) (λ k. (sym networks k, sym passes k)) (all_ready config queue (c.checked_networks.ensures.networks config c.requires.sound)));
      count = omega (arith, none, same, pairs, all);
    }

pub returns : goal.returns
returns g c =
    let left = c.loop-network.network-iterator.a in
    let right = c.loop-network.network-iterator.b in
    let none : length (zip (into_iter_items left) (into_iter_items right)) ≡ 0 = elim c.in-None.ensures.steps [
      | inl h ↦ none_first (into_iter_items left) (into_iter_items right) (omega (arith, left.rest.ok, h.1.0))
      | inr h ↦ none_second (into_iter_items left) (into_iter_items right) (omega (arith, right.rest.ok, h.1.0))
    ] in
    let count = c.loop-network.invariant.count in
    omega (arith, none, count)
