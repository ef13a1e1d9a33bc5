use Rattle.std.proofs.Common.{◌≡◌, ◌+◌, length, vec_len}
use Rattle.std.specs.List.{AllByRecursion, zip}
use Rattle.std.specs.Vec.Iter.{into_iter_items}
use Rattle.workers.proofs.Starting.{IsReady}
use Rattle.workers.proofs.start.seat_networks.Given as goal

-- those that are to come can be seated, and with those that are they are all networks
abbrev pub invariant-loop-network : goal.invariant-loop-network
invariant-loop-network g l =
    let rest = zip (into_iter_items l.network-iterator.a) (into_iter_items l.network-iterator.b) in
    record {
      ready : AllByRecursion (IsReady g.N.ApName.config g.N.ApName.queue) rest;
      count : vec_len l.seats + length rest ≡ length g.N.ApName.config.networks;
    }
