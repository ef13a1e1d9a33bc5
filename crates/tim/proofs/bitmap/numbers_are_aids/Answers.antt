use Rattle.std.proofs.Common.{subst, IsTrue, ℕ}
use Rattle.std.specs.Ordering.{nat_cmp}
use Rattle.std.specs.FinSet as set
use Rattle.tim.specs.Tim.{IsAid}
use Rattle.tim.specs.Bitmap.{has_bit}
use Rattle.tim.proofs.Aids.{aids_where-aid}
use Rattle.tim.proofs.bitmap.numbers_are_aids.Goals as goal

pub returns : goal.returns
returns c =
    subst (λ (s : set.FinSet nat_cmp). (n : ℕ) → IsTrue (set.contains s n) → IsAid n) c.bits.view_is
    (aids_where-aid (has_bit c.bits.inside.octets))
