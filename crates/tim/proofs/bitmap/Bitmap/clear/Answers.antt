use Rattle.std.proofs.Common.{◌∙◌, ap, arith}
use Rattle.std.proofs.lemmas.Bool.{and_right}
use Rattle.std.specs.FinSet as set
use Rattle.tim.specs.Bitmap.{has_bit}
use Rattle.tim.proofs.Aids.{aids_where-remove, has_bit-clear}
use Rattle.tim.proofs.bitmap.Bitmap.clear.Goals as goal

pub invariant_of-self : goal.invariant_of-self
invariant_of-self c =
    let octets = c.self.inside.octets in
    let aid = c.args.aid in
    rw c.from.ensures (has_bit-clear octets aid (omega arith) 0 ∙ and_right _ _ c.self.invariant)

pub returns : goal.returns
returns c =
    let octets = c.self.inside.octets in
    let aid = c.args.aid in
    rw c.from.ensures
    (aids_where-remove (has_bit octets) _ aid c.requires.least c.requires.greatest (has_bit-clear octets aid (omega arith))
    ∙ ap (λ s. set.remove s aid) c.self.view_is)
