use Rattle.std.proofs.Common.{◌≡◌, ◌+◌}
use Rattle.powersave.specs.Keep.{units_for, without_older, CameInOrder}
use Rattle.powersave.proofs.Older.{older_count}
use Rattle.powersave.proofs.keep.Keep.drop_first_while_older.Given as goal

-- what is left to drop of those that came before the clock
abbrev pub invariant-loop-self : goal.invariant-loop-self
invariant-loop-self l = record {
  count : l.dropped + older_count l.whom l.limit l.self.entries ≡ older_count l.whom l.limit l.fn.self.entries;
  rest : without_older l.whom l.limit l.self.entries ≡ without_older l.whom l.limit l.fn.self.entries;
  in_order : CameInOrder (units_for l.whom l.self.entries);
  same : l.self ≡ record l.fn.self { entries = l.self.entries };
}

abbrev pub decreases-loop-self : goal.decreases-loop-self
decreases-loop-self l = older_count l.whom l.limit l.self.entries
