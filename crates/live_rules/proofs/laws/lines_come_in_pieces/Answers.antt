use Rattle.live_rules.proofs.PieceLines.{ended-more, partial-more, all-lines}
use Rattle.live_rules.proofs.laws.lines_come_in_pieces.Goals as goal

pub returns-clause-ended : goal.returns-clause-ended
returns-clause-ended c = ended-more

pub returns-clause-partial : goal.returns-clause-partial
returns-clause-partial c = partial-more

pub returns-clause-last : goal.returns-clause-last
returns-clause-last c = all-lines
