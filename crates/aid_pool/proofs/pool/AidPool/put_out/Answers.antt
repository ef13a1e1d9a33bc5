use Rattle.std.proofs.Common.{◌≡◌, ◌∙◌, ap, arith, false}
use Rattle.std.specs.FinSet as set
use Rattle.aid_pool.proofs.Numbers.{len_inserted, changed_pool}
use Rattle.aid_pool.proofs.pool.AidPool.put_out.Goals as goal

pub overflow_add-self : goal.overflow_add-self
overflow_add-self c = omega (arith, c.self.invariant.few, c.self.invariant.most)

pub set-requires : goal.set-requires
set-requires c = record { first = c.requires.first; last = c.requires.last }

pub invariant_of-self : goal.invariant_of-self
invariant_of-self c =
    let out = c.self.inside.out in
    let aid = c.args.aid in
    let free : set.contains out aid ≡ false = ap (λ p. set.contains p.out aid) c.self.view_is ∙ c.requires.free in
    let more = len_inserted out aid free in
    let same : set.len out ≡ set.len c.args.self.now.out = ap (λ p. set.len p.out) c.self.view_is in
    let most : c.self.inside.most ≡ c.args.self.now.most = ap (λ p. p.most) c.self.view_is in
    record {
      count = rw (c.set.ensures, more) (omega (arith, c.self.invariant.count));
      few = omega (arith, c.self.invariant.count, c.requires.room);
      most = c.self.invariant.most;
    }

pub returns : goal.returns
returns c = changed_pool (λ s. set.insert s c.args.aid) _ _ _ _ c.self.view_is c.set.ensures
