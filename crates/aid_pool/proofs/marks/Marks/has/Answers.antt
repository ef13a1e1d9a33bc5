use Rattle.std.proofs.Common.{◌∙◌, sym, ap, arith}
use Rattle.std.specs.FinSet as set
use Rattle.aid_pool.proofs.Numbers.{contains-numbers_of, not_contained}
use Rattle.aid_pool.proofs.marks.Marks.has.Goals as goal

pub returns-then-aid-eq0-clause-value : goal.returns-then-aid-eq0-clause-value
returns-then-aid-eq0-clause-value c =
    sym (not_contained _ c.args.aid (λ some last. omega arith)) ∙ ap (λ s. set.contains s c.args.aid) c.self.view_is

pub returns-clause-value : goal.returns-clause-value
returns-clause-value c =
    c.has_mark.ensures
    ∙ sym (contains-numbers_of c.self.inside.words c.args.aid (omega arith) (omega arith))
    ∙ ap (λ s. set.contains s c.args.aid) c.self.view_is
