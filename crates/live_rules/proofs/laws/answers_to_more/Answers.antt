use Rattle.live_rules.proofs.MoreLines.{begins, joins, length-answers, lines-said, bssids-answers}
use Rattle.live_rules.proofs.laws.answers_to_more.Goals as goal

pub returns : goal.returns
returns c = record {
  begin = begins;
  join = joins;
  each = length-answers;
  lines = lines-said;
  bssids = bssids-answers;
}
