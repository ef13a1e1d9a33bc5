use Rattle.std.proofs.Common.{◌≡◌, ◌≢◌, sym, ap, arith, false}
use Rattle.std.specs.FinSet as set
use Rattle.std.proofs.lemmas.Bool.{both_ways}
use Rattle.aid_pool.proofs.pool.AidPool.take.Goals as goal

pub put_out-requires : goal.put_out-requires
put_out-requires c =
    let least = c.in_ok-aid.ensures.least in
    let same : set.len c.self.inside.out ≡ set.len c.args.self.now.out = ap (λ p. set.len p.out) c.self.view_is in
    let most : c.self.inside.most ≡ c.args.self.now.most = ap (λ p. p.most) c.self.view_is in
    let some : set.len c.args.self.now.out ≢ c.args.self.now.most =
    λ full. both_ways false (λ _. false) (sym (c.in_ok-aid.ensures.none.1 full)) in
    record {
      first = least.first;
      last = least.last;
      free = least.free;
      room = omega (arith, c.self.invariant.count, c.self.invariant.few);
    }
