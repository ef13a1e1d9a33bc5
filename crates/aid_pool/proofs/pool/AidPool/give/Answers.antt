use Rattle.std.proofs.Common.{◌≡◌, ◌∙◌, ap, arith, true}
use Rattle.std.specs.FinSet as set
use Rattle.aid_pool.proofs.Numbers.{len_removed, len_some, changed_pool}
use Rattle.aid_pool.proofs.pool.AidPool.give.Goals as goal

pub overflow_sub-self : goal.overflow_sub-self
overflow_sub-self c =
    let out : set.contains c.self.inside.out c.args.aid ≡ true = ap (λ p. set.contains p.out c.args.aid) c.self.view_is ∙ c.requires in
    omega (arith, len_some _ _ out)

pub clear-requires : goal.clear-requires
clear-requires c = ap (λ p. set.contains p.out c.args.aid) c.self.view_is ∙ c.requires

pub invariant_of-self : goal.invariant_of-self
invariant_of-self c =
    let out : set.contains c.self.inside.out c.args.aid ≡ true = ap (λ p. set.contains p.out c.args.aid) c.self.view_is ∙ c.requires in
    let fewer = len_removed c.self.inside.out c.args.aid out in
    record {
      count = rw (c.clear.ensures, fewer) (omega arith);
      few = omega arith;
      most = c.self.invariant.most;
    }

pub returns : goal.returns
returns c = changed_pool (λ s. set.remove s c.args.aid) _ _ _ _ c.self.view_is c.clear.ensures
