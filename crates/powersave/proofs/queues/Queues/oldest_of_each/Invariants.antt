use Rattle.std.proofs.Common.{◌≡◌, ◌+◌, ◌≤◌, ◌++◌, length, vec_len, vec_capacity}
use Rattle.powersave.specs.Queues.{oldest_in}
use Rattle.powersave.proofs.queues.Queues.oldest_of_each.Given as goal

-- those of the queues that were passed, and those of the queues to come, for each of which there is room
abbrev pub invariant-loop-whom : goal.invariant-loop-whom
invariant-loop-whom l =
    (goal.iterator-loop-whom).can_next l.whom-iterator
    × (goal.iterator-loop-whom).is_finite l.whom-iterator
    × (l.oldest.items ++ oldest_in l.whom-iterator ≡ oldest_in l.self.map.entries)
    × (vec_len l.oldest + length l.whom-iterator ≤ vec_capacity l.oldest)
