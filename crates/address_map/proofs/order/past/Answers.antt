use Rattle.std.proofs.Common.{◌≡◌, ◌<◌, ◌+◌, ◌-◌, ◌/◌, ℕ, List, length, get_or, subst, sym, arith}
use Rattle.address_map.proofs.SlotOrder.{past-is}
use Rattle.address_map.proofs.order.past.Goals as goal

pub loop-low-init : goal.loop-low-init
loop-low-init c = record {
  order = omega arith;
  within = omega arith;
  below = λ some. absurd (omega (arith, some));
  above = λ more. absurd (omega (arith, more));
}

pub loop-low-preserved-then-gone-middle : goal.loop-low-preserved-then-gone-middle
loop-low-preserved-then-gone-middle c =
    let middle : ℕ = c.loop-low.low + (c.loop-low.high - c.loop-low.low) / 2 in
    let back : middle ≡ middle + 1 - 1 = omega arith in
    record {
      order = omega (arith, c.loop-low-test.true);
      within = c.loop-low.invariant.within;
      below = λ some. subst (λ k. get_or c.args.gone.now k 0 < c.args.place + (middle + 1)) back (omega (arith, c.if-gone-middle.true));
      above = c.loop-low.invariant.above;
    }

pub loop-low-preserved : goal.loop-low-preserved
loop-low-preserved c = record {
  order = omega arith;
  within = omega (arith, c.loop-low-test.true, c.loop-low.invariant.within);
  below = c.loop-low.invariant.below;
  above = λ more. omega (arith, c.if-gone-middle.false);
}

pub returns : goal.returns
returns c =
    let gone : List ℕ = c.args.gone.now in
    let low : ℕ = c.loop-low.low in
    let end : c.loop-low.high ≡ low = omega (arith, c.loop-low.invariant.order, c.loop-low-test.false) in
    sym (past-is 0 gone c.args.place low c.requires.rising (omega (arith, c.loop-low.invariant.order, c.loop-low.invariant.within)) c.loop-low.invariant.below
    (subst (λ k. k < length gone → c.args.place + k < get_or gone k 0) end c.loop-low.invariant.above))
