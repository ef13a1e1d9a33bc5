use Rattle.std.proofs.Common.{◌≡◌, ◌+◌, ◌≤◌, length, vec_len, vec_capacity}
use Rattle.ap_config.specs.Configuration.{most_networks}
use Rattle.events.specs.declared.line.Line.{Line}
use Rattle.workers.specs.Copies.{AreCopies}
use Rattle.workers.proofs.Offering.{Offered}
use Rattle.workers.proofs.ap.Ap.offer_each.Given as goal

abbrev pub invariant-loop-place : goal.invariant-loop-place
invariant-loop-place g l = record {
  count : vec_len l.copies ≡ most_networks;
  long : length l.outcomes ≡ most_networks;
  offered : (line : Line) → AreCopies g.N.ApName.config line l.initial.copies.items
      → Offered g.N.ApName.config line l.copies.items l.outcomes l.initial.entries.items l.entries.items l.place;
  room : vec_len l.entries + most_networks ≤ vec_capacity l.entries + l.place;
}
