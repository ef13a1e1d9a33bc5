use Rattle.trace.proofs.PieceLaws.{read-nothing, read-more, read-fault, read-end}
use Rattle.trace.proofs.laws.piece_by_piece.Goals as goal

pub returns-clause-new : goal.returns-clause-new
returns-clause-new c = read-nothing

pub returns-clause-more : goal.returns-clause-more
returns-clause-more c = read-more

pub returns-clause-fault : goal.returns-clause-fault
returns-clause-fault c = read-fault

pub returns-clause-end : goal.returns-clause-end
returns-clause-end c = read-end
