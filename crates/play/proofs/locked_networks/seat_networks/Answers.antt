use Rattle.std.proofs.Common.{◌≡◌, [], List, length, map, inl, inr, sym, ap, subst, ◌∙◌, arith, rules}
use Rattle.std.specs.List.{AllZip}
use Rattle.std.specs.Vec.Iter.{into_iter_items}
use Rattle.std.proofs.lemmas.List.{length-map}
use Rattle.std.proofs.lemmas.Slice.Zip.{AllZip-long}
use Rattle.networks.specs.WithFrames.{after_events}
use Rattle.networks.specs.declared.network_with_frames.NetworkWithFrames.{NetworkWithFrames}
use Rattle.air_queue.specs.Passes.{NetPassView, fresh_passes}
use Rattle.ap_config.specs.Places.{setting_in}
use Rattle.ap_config.specs.declared.config.NetConfig.{NetConfig}
use Rattle.ap_config.specs.declared.config.RadioConfig.{RadioConfig}
use Rattle.play.proofs.Leaves.{IsReady, all-ready}
use Rattle.play.proofs.locked_networks.seat_networks.Goals as goal

pub loop-network-init : goal.loop-network-init
loop-network-init g c =
    let config : RadioConfig = g.N.PlayName.play.config in
    let queue = g.N.PlayName.play.queue in
    let first : into_iter_items c.into_iter-network-iterator.result.a ≡ c.in_ok-networks.networks.items = search rules in
    let second : into_iter_items c.into_iter-network-iterator.result.b ≡ c.args.nets.items = search rules in
    let opened : List NetworkWithFrames = map (λ (n : NetConfig). after_events (setting_in config n) []) config.networks in
    let networks : into_iter_items c.into_iter-network-iterator.result.a ≡ opened =
    first ∙ c.in_ok-networks.ensures
    ∙ ap (λ (d : RadioConfig). map (λ (n : NetConfig). after_events (setting_in d n) []) d.networks) c.requires.config in
    let passes : into_iter_items c.into_iter-network-iterator.result.b ≡ fresh_passes queue (length config.networks) =
    second ∙ c.requires.nets ∙ ap (λ (d : RadioConfig). fresh_passes queue (length d.networks)) c.requires.config in
    let none = c.in_ok-seats.ensures.len in
    let long : length (into_iter_items c.into_iter-network-iterator.result.a) ≡ length config.networks =
    ap length networks ∙ length-map config.networks (λ (n : NetConfig). after_events (setting_in config n) []) in
    record {
      ready = subst (λ (x : List NetworkWithFrames × List NetPassView). AllZip (IsReady config queue) x.0 x.1)
          (λ k. (sym networks k, sym passes k)) (all-ready config queue);
      count = omega (arith, none, long);
    }

pub returns : goal.returns
returns g c =
    let i = c.loop-network.invariant in
    let left = c.loop-network.network-iterator.a in
    let right = c.loop-network.network-iterator.b in
    let same = AllZip-long (IsReady g.N.PlayName.play.config g.N.PlayName.play.queue) (into_iter_items left) (into_iter_items right)
    i.ready in
    let none : length (into_iter_items left) ≡ 0 = elim c.in-None.ensures.steps [
      | inl h ↦ omega (arith, left.rest.ok, h.1.0)
      | inr h ↦ omega (arith, right.rest.ok, h.1.0, same)
    ] in
    let count = i.count in
    omega (arith, none, count)
