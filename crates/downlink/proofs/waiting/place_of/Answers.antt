use Rattle.downlink.proofs.Firsts.{first_by_way, nowhere_by_way}
use Rattle.downlink.proofs.waiting.place_of.Goals as goal

pub returns-then-goes-clause-found : goal.returns-then-goes-clause-found
returns-then-goes-clause-found c =
    first_by_way c.args.goes c.args.frames.now c.loop-place.place _ c.goes.result c.goes.ensures c.if-goes.true
    c.loop-place-test.true c.loop-place.invariant

pub returns-clause-none : goal.returns-clause-none
returns-clause-none c =
    nowhere_by_way c.args.goes c.args.frames.now c.loop-place.place c.loop-place-test.false c.loop-place.invariant
