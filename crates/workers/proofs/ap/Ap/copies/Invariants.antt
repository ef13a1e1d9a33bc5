use Rattle.std.proofs.Common.{◌≡◌, ◌≤◌, map, vec_len, vec_capacity}
use Rattle.std.specs.List.{range_with_len}
use Rattle.ap_config.specs.Configuration.{most_networks}
use Rattle.events.specs.LentEvents.{line_of}
use Rattle.workers.specs.Copies.{copies_at}
use Rattle.workers.proofs.ap.Ap.copies.Given as goal

abbrev pub invariant-loop-place : goal.invariant-loop-place
invariant-loop-place g l = record {
  made : l.copies.items ≡ map (copies_at g.N.ApName.config (line_of l.given)) (range_with_len 0 l.place);
  count : vec_len l.copies ≡ l.place;
  room : most_networks ≤ vec_capacity l.copies;
}
