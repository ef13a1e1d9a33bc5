use Rattle.thread_laws.proofs.Runs.{given}
use Rattle.thread_laws.proofs.laws.as_steps.Goals as goal

pub returns-clause-ended : goal.returns-clause-ended
returns-clause-ended c config end fine count are sent placed =
    given config end.sections end.left fine count are sent placed

pub returns-clause-played : goal.returns-clause-played
returns-clause-played c config sources end fine play =
    given config end.sections end.left fine play.networks play.sections play.air play.nothing_else
