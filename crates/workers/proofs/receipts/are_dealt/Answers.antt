use Rattle.std.proofs.Common.{sym, ◌∙◌}
use Rattle.workers.proofs.Receiving.{dealt-other}
use Rattle.workers.proofs.receipts.are_dealt.Goals as goal

pub loop-number-preserved-then-giver-caller : goal.loop-number-preserved-then-giver-caller
loop-number-preserved-then-giver-caller c rest =
    c.loop-number.invariant
    (rest ∙ sym (dealt-other c.args.givers.now c.args.history.now c.loop-number.number c.args.caller c.loop-number-test.true c.requires c.if-giver-caller.true))
