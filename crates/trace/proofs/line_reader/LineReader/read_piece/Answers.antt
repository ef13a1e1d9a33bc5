use Rattle.trace.proofs.PieceSteps.{owned_all}
use Rattle.trace.proofs.line_reader.LineReader.read_piece.Goals as goal

pub returns-in-Ok-clause-exact : goal.returns-in-Ok-clause-exact
returns-in-Ok-clause-exact c = owned_all _ c.new-owned.result.lines.items _ c.new-owned.ensures c.in-Ok.ensures.takes
