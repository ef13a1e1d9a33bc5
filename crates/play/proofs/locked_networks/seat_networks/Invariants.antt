use Rattle.std.proofs.Common.{◌≡◌, ◌+◌, length, vec_len}
use Rattle.std.specs.List.{AllZip}
use Rattle.std.specs.Vec.Iter.{into_iter_items}
use Rattle.play.proofs.Leaves.{IsReady}
use Rattle.play.proofs.locked_networks.seat_networks.Given as goal

-- those that are to come can be seated, and with those that are they are all networks
abbrev pub invariant-loop-network : goal.invariant-loop-network
invariant-loop-network g l =
    let networks = into_iter_items l.network-iterator.a in
    record {
      ready : AllZip (IsReady g.N.PlayName.play.config g.N.PlayName.play.queue) networks (into_iter_items l.network-iterator.b);
      count : vec_len l.seats + length networks ≡ length g.N.PlayName.play.config.networks;
    }
