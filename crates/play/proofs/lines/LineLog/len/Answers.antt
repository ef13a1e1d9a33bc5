use Rattle.std.proofs.Common.{length, sym, ap, ◌∙◌}
use Rattle.play.proofs.LineSteps.{length-lines}
use Rattle.play.proofs.lines.LineLog.len.Goals as goal

pub returns : goal.returns
returns c =
    c.len.ensures ∙ c.self.inside.marks.ok.0 ∙ sym (length-lines 0 c.self.inside.marks.items c.self.inside.octets.items)
    ∙ ap length c.self.view_is
