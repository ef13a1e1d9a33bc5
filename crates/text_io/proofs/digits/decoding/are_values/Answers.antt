use Rattle.text_io.proofs.DigitMarks.{clear_where_small, small_first, small_second}
use Rattle.text_io.proofs.digits.decoding.are_values.Goals as goal

pub returns-clause-high : goal.returns-clause-high
returns-clause-high c = small_first c.args.high c.args.low c.fits-high c.fits-low

pub returns-clause-low : goal.returns-clause-low
returns-clause-low c = small_second c.args.high c.args.low c.fits-high c.fits-low

pub returns-clause-all : goal.returns-clause-all
returns-clause-all c = clear_where_small c.args.high c.args.low c.fits-high.0 c.fits-low.0
