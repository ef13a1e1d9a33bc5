use Rattle.text_io.proofs.DigitSpelling.{high_l-small, low_l-small, pairs_spell}
use Rattle.text_io.proofs.digits.encoding.pairs_of.Goals as goal

pub digits_of-requires : goal.digits_of-requires
digits_of-requires c = high_l-small c.args.block c.fits-block.1

pub digits_of-requires-2 : goal.digits_of-requires-2
digits_of-requires-2 c = low_l-small c.args.block

pub returns-clause-spells : goal.returns-clause-spells
returns-clause-spells c =
    pairs_spell c.args.block c.digits_of.result c.digits_of-2.result c.fits-block.0 c.digits_of.ensures.len
    c.digits_of.ensures.digits c.digits_of-2.ensures.digits
