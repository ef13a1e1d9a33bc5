use Rattle.std.specs.Prelude.{replicate}
use Rattle.tim.specs.Bitmap.{has_bit}
use Rattle.tim.proofs.Aids.{aids_where-none, has_bit-zeros}
use Rattle.tim.proofs.bitmap.Bitmap.new.Goals as goal

pub invariant_of-result : goal.invariant_of-result
invariant_of-result c = has_bit-zeros 251 0

pub returns : goal.returns
returns c = aids_where-none (has_bit (replicate 251 0)) (has_bit-zeros 251)
