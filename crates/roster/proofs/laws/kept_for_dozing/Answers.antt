use Rattle.roster.proofs.UnitsKept.{kept-where, kept-elsewhere, kept-filtered, kept-without_first, kept-push}
use Rattle.roster.proofs.laws.kept_for_dozing.Goals as goal

pub returns : goal.returns
returns c = record {
  dozing = kept-where;
  beside = kept-elsewhere;
  some = kept-filtered;
  one_left = kept-without_first;
  one_came = kept-push;
}
