use Rattle.std.proofs.Common.{◌≡◌, ◌+◌, map, length, vec_len}
use Rattle.std.specs.List.{AllZip, range_with_len}
use Rattle.std.specs.Vec.Iter.{into_iter_len}
use Rattle.workers.specs.Seats.{IsSeated}
use Rattle.workers.proofs.finish.unseat.Given as goal

abbrev pub invariant-loop-seat : goal.invariant-loop-seat
invariant-loop-seat g l = record {
  seated : AllZip (IsSeated g.N.ApName.config g.N.ApName.queue) l.networks.items l.nets.items;
  placed : map (λ pass. pass.place) l.nets.items ≡ range_with_len 0 (vec_len l.nets);
  count : vec_len l.nets + into_iter_len l.seat-iterator ≡ length g.N.ApName.config.networks;
}
