use Rattle.trace.proofs.PieceSteps.{taken_at_end}
use Rattle.trace.proofs.line_reader.LineReader.take_end.Goals as goal

pub returns-clause-all : goal.returns-clause-all
returns-clause-all g c config text h =
    taken_at_end config text c.args.self.now _ _ c.end_unless_met.result c.end_unless_met.ensures.takes h
