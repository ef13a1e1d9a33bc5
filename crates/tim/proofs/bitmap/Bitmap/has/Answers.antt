use Rattle.std.proofs.Common.{sym, ap, ◌∙◌}
use Rattle.std.specs.FinSet as set
use Rattle.tim.specs.Bitmap.{has_bit}
use Rattle.tim.proofs.Aids.{contains-aid}
use Rattle.tim.proofs.bitmap.Bitmap.has.Goals as goal

pub returns : goal.returns
returns c =
    let aid = c.args.aid in
    c.has_bit.ensures
    ∙ sym (contains-aid (has_bit c.self.inside.octets) aid c.requires.least c.requires.greatest)
    ∙ ap (λ s. set.contains s aid) c.self.view_is
