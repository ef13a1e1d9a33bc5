use Rattle.std.proofs.Common.{arith, rules}
use Rattle.downlink.proofs.Bits.{first_at_once, none_at_once, none_here, first_here, none_at_all}
use Rattle.downlink.proofs.ready.first_set.Goals as goal

pub returns-then-rest-ne0-clause-found : goal.returns-then-rest-ne0-clause-found
returns-then-rest-ne0-clause-found c =
    first_at_once c.args.words.now c.args.from c.lowest_bit.result (first_of (omega arith, search rules)) c.lowest_bit.ensures.this c.lowest_bit.ensures.lower

pub loop-place-init : goal.loop-place-init
loop-place-init c = none_at_once c.args.words.now c.args.from c.if-rest-ne0.false

pub loop-place-preserved : goal.loop-place-preserved
loop-place-preserved c =
    none_here c.args.words.now c.args.from c.loop-place.place c.loop-place.invariant c.if-word-ne0.false

pub returns-then-word-ne0-clause-found : goal.returns-then-word-ne0-clause-found
returns-then-word-ne0-clause-found c =
    first_here c.args.words.now c.args.from c.loop-place.place c.lowest_bit-then-word-ne0.result c.loop-place.invariant (omega arith) c.lowest_bit-then-word-ne0.ensures.within c.lowest_bit-then-word-ne0.ensures.this c.lowest_bit-then-word-ne0.ensures.lower

pub returns-clause-none : goal.returns-clause-none
returns-clause-none c = none_at_all c.args.words.now c.args.from c.loop-place.place c.loop-place.invariant c.loop-place-test.false
