use Rattle.roster.proofs.UnitsKept.{length-without_first, length-parted, some-for, oldest-none}
use Rattle.roster.proofs.UnitsLeft.{no_more}
use Rattle.roster.proofs.laws.kept_counts.Goals as goal

pub returns : goal.returns
returns c = record {
  some = no_more;
  one_left = length-without_first;
  parted = length-parted;
  any = some-for;
  none = oldest-none;
}
