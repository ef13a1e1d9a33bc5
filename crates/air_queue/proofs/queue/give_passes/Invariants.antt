use Rattle.std.proofs.Common.{◌≡◌, ◌≤◌, [], vec_len, vec_capacity}
use Rattle.std.specs.FinMap as finite
use Rattle.crossbeam_queue.specs.Passes.{IsPassOf, view}
use Rattle.air_queue.specs.Passes.{fresh_passes}
use Rattle.air_queue.specs.declared.known.Known.TheVariants.{Radio}
use Rattle.air_queue.proofs.queue.give_passes.Given as goal

-- the passes of the places up to here were given
abbrev pub invariant-loop-place : goal.invariant-loop-place
invariant-loop-place l =
    IsPassOf l.queue l.queue_pass × (view l.queue_pass ≡ Radio [] l.place finite.empty)
    × (l.nets.items ≡ fresh_passes l.queue.table.shared.table_id l.place)
    × (vec_len l.nets ≡ l.place)
    × (l.networks ≤ vec_capacity l.nets)
