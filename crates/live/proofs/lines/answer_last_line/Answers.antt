use Rattle.std.proofs.Common.{◌≡◌, []}
use Rattle.live_rules.specs.TextLines.{Octets}
use Rattle.live.proofs.FeedSteps.{last-whole}
use Rattle.live.proofs.lines.answer_last_line.Goals as goal

pub returns : goal.returns
returns g c =
    let some : c.args.partial.now ≡ Octets [] → ⊥ =
    λ (e : c.args.partial.now ≡ Octets []). let yes = c.is_empty.ensures.1 e in cc (yes, c.if-is_empty.false) in
    rw (last-whole c.args.partial.now some) (rw c.whole.ensures at c.answer_line.ensures)
