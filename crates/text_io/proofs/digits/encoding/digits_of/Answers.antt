use Rattle.std.proofs.Common.{◌∙◌}
use Rattle.std.proofs.lemmas.Simd.{length-swz_l}
use Rattle.std.proofs.Common.{w8}
use Rattle.hex.specs.Hex.{lower_digits}
use Rattle.text_io.proofs.DigitSpelling.{digit_at, has_digits}
use Rattle.text_io.proofs.digits.encoding.digits_of.Goals as goal

pub swizzle : goal.swizzle
swizzle c = has_digits c.args.values c.fits-values.0 c.requires

pub returns-clause-len : goal.returns-clause-len
returns-clause-len c = length-swz_l w8 16 lower_digits 0 c.args.values ∙ c.fits-values.0

pub returns-clause-digits : goal.returns-clause-digits
returns-clause-digits c = digit_at c.args.values c.fits-values.0 c.requires
