use Rattle.std.proofs.Common.{◌∙◌, sym, ap, arith}
use Rattle.std.specs.Ordering.{nat_cmp}
use Rattle.std.specs.FinSet as set
use Rattle.std.specs.FinSet.{len-empty}
use Rattle.aid_pool.proofs.Numbers.{pool}
use Rattle.aid_pool.proofs.pool.AidPool.new.Goals as goal

pub invariant_of-result : goal.invariant_of-result
invariant_of-result c =
    record { count = sym (ap set.len c.new.ensures ∙ len-empty nat_cmp); few = omega arith; most = omega arith }

pub returns : goal.returns
returns c = ap (pool c.args.most) c.new.ensures
