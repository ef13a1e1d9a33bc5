use Rattle.std.proofs.Common.{◌∙◌, ap, arith}
use Rattle.std.proofs.lemmas.Bool.{or_from, ne_eqb}
use Rattle.std.specs.FinSet as set
use Rattle.tim.specs.Bitmap.{has_bit}
use Rattle.tim.proofs.Aids.{aids_where-insert, has_bit-set}
use Rattle.tim.proofs.bitmap.Bitmap.set.Goals as goal

pub invariant_of-self : goal.invariant_of-self
invariant_of-self c =
    let octets = c.self.inside.octets in
    let aid = c.args.aid in
    rw c.from.ensures (has_bit-set octets aid (omega arith) 0 ∙ or_from _ _ (ne_eqb 0 aid (omega arith)) c.self.invariant)

pub returns : goal.returns
returns c =
    let octets = c.self.inside.octets in
    let aid = c.args.aid in
    rw c.from.ensures
    (aids_where-insert (has_bit octets) _ aid c.requires.least c.requires.greatest (has_bit-set octets aid (omega arith))
    ∙ ap (λ s. set.insert s aid) c.self.view_is)
