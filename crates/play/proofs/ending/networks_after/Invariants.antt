use Rattle.std.proofs.Common.{◌≡◌, ◌≤◌, length, drop}
use Rattle.std.specs.Vec.Iter.{into_iter_items}
use Rattle.play.proofs.Ended.{AreLogged}
use Rattle.play.proofs.ending.networks_after.Given as goal

-- the networks so far are those of an end, and the others are to come
abbrev pub invariant-loop-played : goal.invariant-loop-played
invariant-loop-played g l = record {
  logged : AreLogged g.N.PlayName.play l.fn.left.logs.items l.logs.items;
  networks : into_iter_items l.played-iterator.a ≡ drop (length l.logs.items) l.fn.networks.items;
  airs : into_iter_items l.played-iterator.b ≡ drop (length l.logs.items) l.fn.left.logs.items;
  count : length l.logs.items ≤ length l.fn.networks.items;
}
