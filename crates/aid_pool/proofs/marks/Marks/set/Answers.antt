use Rattle.std.proofs.Common.{◌∙◌, ap, arith}
use Rattle.std.specs.FinSet as set
use Rattle.std.proofs.lemmas.Bool.{or_right}
use Rattle.aid_pool.proofs.Numbers.{numbers_of-marked}
use Rattle.aid_pool.proofs.Words.{marked}
use Rattle.aid_pool.proofs.marks.Marks.set.Goals as goal

pub invariant_of-self : goal.invariant_of-self
invariant_of-self c =
    rw c.from.ensures (marked c.self.inside.words c.args.aid (omega arith) 0 ∙ or_right _ _ c.self.invariant)

pub returns : goal.returns
returns c =
    rw c.from.ensures
    (numbers_of-marked c.self.inside.words _ c.args.aid c.requires.first c.requires.last (marked c.self.inside.words c.args.aid (omega arith))
    ∙ ap (λ s. set.insert s c.args.aid) c.self.view_is)
