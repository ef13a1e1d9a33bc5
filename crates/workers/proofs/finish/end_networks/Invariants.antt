use Rattle.std.proofs.Common.{◌≡◌, ◌++◌, vec_len}
use Rattle.std.specs.Vec.Iter.{into_iter_items}
use Rattle.workers.specs.Ending.{sections_from, waiting_from}
use Rattle.workers.proofs.finish.end_networks.Given as goal

-- the networks so far ended, and those that are to come
abbrev pub invariant-loop-network : goal.invariant-loop-network
invariant-loop-network l =
    let coming = into_iter_items l.network-iterator in
    record {
      sections : l.sections.items ++ sections_from l.left (vec_len l.sections) coming ≡ sections_from l.left 0 l.fn.networks.items;
      waited : l.waited.items ++ waiting_from (vec_len l.sections) coming ≡ waiting_from 0 l.fn.networks.items;
    }
