use Rattle.roster.proofs.Aging.{came-filtered, came-without_first, came-push, came-later}
use Rattle.roster.proofs.Returned.{came-back}
use Rattle.roster.proofs.laws.came_in_turn.Goals as goal

pub returns : goal.returns
returns c = record {
  some = came-filtered;
  one_left = came-without_first;
  one_came = came-push;
  later = came-later;
  one_back = came-back c.returns_in_its_place.ensures.place c.returns_in_its_place.ensures.others;
}
