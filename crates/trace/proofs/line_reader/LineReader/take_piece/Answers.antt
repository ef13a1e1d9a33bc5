use Rattle.trace.proofs.PieceSteps.{taken_on}
use Rattle.trace.proofs.line_reader.LineReader.take_piece.Goals as goal

pub returns-clause-all : goal.returns-clause-all
returns-clause-all g c config text h =
    taken_on config text c.args.piece.now c.args.self.now c.take_unless_met.new.self _ _ c.take_unless_met.result
    c.take_unless_met.ensures.takes c.take_unless_met.ensures.after h
