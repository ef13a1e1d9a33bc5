use Rattle.std.proofs.Common.{◌≡◌, ◌++◌, drop}
use Rattle.roster.specs.AgingClocks.{due_at}
use Rattle.roster.proofs.aging_clocks.AgingClocks.due.Given as goal

-- those of the identifiers that were passed, and those of the identifiers to come
abbrev pub invariant-loop-aid : goal.invariant-loop-aid
invariant-loop-aid l = l.due.items ++ due_at l.clock l.self.clocks.items (drop l.aid-index l.self.aids.items) ≡ due_at l.clock l.self.clocks.items l.self.aids.items
