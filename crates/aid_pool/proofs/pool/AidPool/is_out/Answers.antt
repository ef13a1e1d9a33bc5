use Rattle.std.proofs.Common.{◌∙◌, ap}
use Rattle.std.specs.FinSet as set
use Rattle.aid_pool.proofs.pool.AidPool.is_out.Goals as goal

pub returns-clause-value : goal.returns-clause-value
returns-clause-value c = c.has.ensures.value ∙ ap (λ p. set.contains p.out c.args.aid) c.self.view_is
