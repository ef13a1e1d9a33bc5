use Rattle.std.proofs.Common.{◌≡◌, suc, sym, ap, ◌∙◌, arith}
use Rattle.play.specs.LineLog.{start_of}
use Rattle.play.proofs.LineSteps.{start-first, start-next}
use Rattle.play.proofs.mark.start_of.Goals as goal

pub returns-in-Some : goal.returns-in-Some
returns-in-Some c =
    let next : suc c.in-Some.before ≡ c.args.number = omega (arith, c.in-Some.ensures.0, c.in-Some.ensures.1) in
    start-next 0 c.args.marks.now c.in-Some.before _ (omega (arith, next, c.requires))
    ∙ ap (start_of 0 c.args.marks.now) next

pub returns-in-None : goal.returns-in-None
returns-in-None c =
    let none : 0 ≡ c.args.number = omega (arith, c.in-None.ensures) in
    sym (start-first 0 c.args.marks.now) ∙ ap (start_of 0 c.args.marks.now) none
