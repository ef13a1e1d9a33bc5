use Rattle.std.proofs.Common.{IsSomeAnd, ap, subst, arith}
use Rattle.std.specs.FinSet as set
use Rattle.aid_pool.specs.LeastFree.{IsLeastFree}
use Rattle.aid_pool.specs.Pool.{Pool}
use Rattle.aid_pool.proofs.Least.{found_is_least, found_some, found_least, found_number}
use Rattle.aid_pool.proofs.pool.AidPool.least.Goals as goal

pub returns-clause-none : goal.returns-clause-none
returns-clause-none c =
    let r = c.least_absent.result in
    let e = c.least_absent.ensures in
    let found = found_is_least c.self.inside.out r (omega arith) e.first e.absent e.least e.none in
    (λ none. absurd (found_some _ r found none), λ full. absurd (omega (arith, ap (λ p. set.len p.out) c.self.view_is, ap (λ p. p.most) c.self.view_is, full)))

pub returns-clause-least : goal.returns-clause-least
returns-clause-least c =
    let r = c.least_absent.result in
    let e = c.least_absent.ensures in
    let found = found_is_least c.self.inside.out r (omega arith) e.first e.absent e.least e.none in
    found_least _ r (subst (λ (p : Pool). IsSomeAnd r (IsLeastFree (set.contains p.out))) c.self.view_is found)

pub returns-clause-number : goal.returns-clause-number
returns-clause-number c =
    let r = c.least_absent.result in
    let e = c.least_absent.ensures in
    let found = found_is_least c.self.inside.out r (omega arith) e.first e.absent e.least e.none in
    found_number _ r (subst (λ (p : Pool). IsSomeAnd r (IsLeastFree (set.contains p.out))) c.self.view_is found)
