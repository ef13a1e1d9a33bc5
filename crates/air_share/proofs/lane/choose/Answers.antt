use Rattle.std.proofs.Common.{sym, ◌∙◌, arith}
use Rattle.air_share.proofs.Choices.{chosen_of_best, chosen_none}
use Rattle.air_share.proofs.lane.choose.Goals as goal

pub returns-in_err-best-clause-exact : goal.returns-in_err-best-clause-exact
returns-in_err-best-clause-exact c =
    c.from_residual.ensures ∙ sym (chosen_none c.args.lanes.now c.in_err-best.ensures.none)

pub returns-clause-exact : goal.returns-clause-exact
returns-clause-exact c =
    chosen_of_best c.args.lanes.now c.loop-place.place c.loop-place.best c.loop-place.least (omega arith)
    c.loop-place.invariant
