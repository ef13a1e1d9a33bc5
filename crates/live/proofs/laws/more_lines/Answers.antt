use Rattle.live.proofs.MoreWritten.{texts-join}
use Rattle.live.proofs.laws.more_lines.Goals as goal

pub returns-clause-begin : goal.returns-clause-begin
returns-clause-begin c = c.answers_to_more.ensures.begin

pub returns-clause-join : goal.returns-clause-join
returns-clause-join c = c.answers_to_more.ensures.join

pub returns-clause-written : goal.returns-clause-written
returns-clause-written c = texts-join c.answers_to_more.ensures
