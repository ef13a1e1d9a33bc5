use Rattle.std.proofs.Common.{[], ◌∙◌, ap}
use Rattle.live.specs.PartialLine.{ended_with}
use Rattle.live_rules.specs.TextLines.{TextLine}
use Rattle.live.proofs.FeedSteps.{ended-after}
use Rattle.live.proofs.lines.answer_ended.Goals as goal

pub returns-clause-answered : goal.returns-clause-answered
returns-clause-answered g c =
    rw
    (c.ended.ensures ∙ ap (λ (b : TextLine). ended_with b []) c.add.ensures.after
    ∙ ended-after c.args.partial.now c.args.octets.now c.add.ensures.unended c.requires.lacks)
    at c.answer_line-2.ensures
