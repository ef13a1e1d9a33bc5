use Rattle.std.proofs.Common.{◌≡◌, ◌+◌, ◌++◌, ◌∷◌, [], ℕ, List, Some, length, map, sym, ap, subst, ◌∙◌, arith, vec_len}
use Rattle.std.specs.Prelude.{slice_get, slice_index_or}
use Rattle.std.specs.List.{AllByRecursion, range_with_len}
use Rattle.air_queue.specs.Passes.{NetPassView, fresh_pass}
use Rattle.play.specs.Kept.{IsWholeAt}
use Rattle.play.specs.declared.kept.PlayedNetwork.{PlayedNetwork}
use Rattle.play.proofs.Leaves.{sent-push, named-push, placed-push}
use Rattle.play.proofs.locked_networks.unseat.Goals as goal

pub loop-seat-preserved : goal.loop-seat-preserved
loop-seat-preserved g c =
    let i = c.loop-seat.invariant in
    let play = g.N.PlayName.play in
    let ns : List PlayedNetwork = c.loop-seat.networks.items in
    let ps : List NetPassView = c.loop-seat.nets.items in
    let n : PlayedNetwork = c.in_ok-network.network in
    let p : NetPassView = c.in_ok-network.pass in
    let networks : c.push.new.self.items ≡ ns ++ n ∷ [] = c.in_ok-push.ensures.items in
    let nets : c.push-in-loop-seat.new.self.items ≡ ps ++ p ∷ [] = c.in_ok-push-2.ensures.items in
    let len : vec_len c.push-in-loop-seat.new.self ≡ vec_len c.loop-seat.nets + 1 = c.in_ok-push-2.ensures.len in
    let more = c.in_ok-push.ensures.len in
    let long = i.long in
    let same : length ps ≡ length ns = omega (arith, long, c.loop-seat.nets.ok.0, c.loop-seat.networks.ok.0) in
    let here : c.len-place.result ≡ length ns =
    omega (arith, long, c.len-place.ensures, c.loop-seat.networks.ok.0) in
    let place : p.place ≡ vec_len c.loop-seat.nets = c.in_ok-network.ensures.pass.1 ∙ c.len-place.ensures in
    let count = i.count in
    let next = c.in-Some.ensures.steps.1 in
    record {
      sent = subst
          (λ (x : List PlayedNetwork × List NetPassView).
          (at : ℕ) (m : PlayedNetwork) → slice_get x.0 at ≡ Some m
          → IsWholeAt play at (slice_index_or x.1 at (fresh_pass play.queue 0)).pushed m)
          (λ k. (sym networks k, sym nets k))
          (sent-push play ns ps n p (fresh_pass play.queue 0) same i.sent
          (subst (λ (k : ℕ). IsWholeAt play k p.pushed n) here c.in_ok-network.ensures.sent));
      named = subst (λ (qs : List NetPassView). AllByRecursion (λ pass. pass.name ≡ play.queue) qs) (sym nets)
          (named-push play.queue ps p i.named c.in_ok-network.ensures.pass.0);
      placed = ap (map (λ (pass : NetPassView). pass.place)) nets
          ∙ placed-push ps p (vec_len c.loop-seat.nets) place i.placed
          ∙ ap (range_with_len 0) (sym len);
      long = omega (arith, len, more, long);
      count = omega (arith, count, next, len);
    }
