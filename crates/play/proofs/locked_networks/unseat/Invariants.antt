use Rattle.std.proofs.Common.{◌≡◌, ◌+◌, ℕ, Some, length, map, vec_len}
use Rattle.std.specs.Prelude.{slice_get, slice_index_or}
use Rattle.std.specs.List.{AllByRecursion, range_with_len}
use Rattle.std.specs.Vec.Iter.{into_iter_len}
use Rattle.air_queue.specs.Passes.{fresh_pass}
use Rattle.play.specs.Kept.{IsWholeAt}
use Rattle.play.specs.declared.kept.PlayedNetwork.{PlayedNetwork}
use Rattle.play.proofs.locked_networks.unseat.Given as goal

-- the networks so far were sent so, with a pass each in order of place, and with those to come they are all
abbrev pub invariant-loop-seat : goal.invariant-loop-seat
invariant-loop-seat g l =
    let play = g.N.PlayName.play in
    record {
      sent :
          (place : ℕ) (n : PlayedNetwork) → slice_get l.networks.items place ≡ Some n
          → IsWholeAt play place (slice_index_or l.nets.items place (fresh_pass play.queue 0)).pushed n;
      named : AllByRecursion (λ pass. pass.name ≡ play.queue) l.nets.items;
      placed : map (λ pass. pass.place) l.nets.items ≡ range_with_len 0 (vec_len l.nets);
      long : vec_len l.nets ≡ vec_len l.networks;
      count : vec_len l.nets + into_iter_len l.seat-iterator ≡ length play.config.networks;
    }
