use Rattle.std.proofs.Common.{arith, nat_cmp}
use Rattle.std.proofs.lemmas.Bool.{both_ways}
use Rattle.std.specs.FinSet.{contains-empty}
use Rattle.roster.proofs.roster.Roster.new.Goals as goal

pub invariant_of-result : goal.invariant_of-result
invariant_of-result c = rw (c.new.ensures, c.new-2.ensures, c.new-3.ensures) (record {
  limit = c.requires.few;
  sound = record { addresses = tt; aids = tt; associated = omega arith };
  traffic = λ n aid. contains-empty nat_cmp n;
  aging = λ all. tt;
  young = λ all. absurd (both_ways c.new-4.result.complete c.new-4.ensures all);
})
