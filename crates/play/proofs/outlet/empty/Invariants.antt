use Rattle.std.proofs.Common.{◌≡◌, vec_len}
use Rattle.play.specs.Kept.{IsLeft}
use Rattle.play.proofs.outlet.empty.Given as goal

-- what left so far is kept
abbrev pub invariant-loop : goal.invariant-loop
invariant-loop g l =
    (goal.iterator-loop g).can_next l.iterator' × (goal.iterator-loop g).is_finite l.iterator'
    × (l.queue.networks ≡ vec_len l.left.logs)
    × (l.queue.taken_in ≡ l.fn.queue.taken_in)
    × (l.queue.networks ≡ l.fn.queue.networks)
    × (vec_len l.left.logs ≡ vec_len l.fn.left.logs)
    × (l.left.keeps ≡ l.fn.left.keeps)
    × IsLeft l.queue.networks l.left.keeps l.queue.left l.left.logs.items l.left.items.items
