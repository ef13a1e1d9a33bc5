use Rattle.trace.proofs.PieceSteps.{owned_last}
use Rattle.trace.proofs.line_reader.LineReader.end.Goals as goal

pub returns-clause-exact : goal.returns-clause-exact
returns-clause-exact c =
    owned_last _ c.new-owned.result.lines.items c.take_end.new.lines.lines.items c.pop.new.self.items c.pop.result _ _
    c.new-owned.ensures c.in_ok-take_end.ensures.takes c.pop.ensures.items c.take_end.new.lines.lines.ok.0
    c.pop.ensures.cases
