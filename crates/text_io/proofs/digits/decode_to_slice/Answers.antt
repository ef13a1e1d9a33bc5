use Rattle.text_io.proofs.DigitDecoded.{reads_all, refused}
use Rattle.text_io.proofs.digits.decode_to_slice.Goals as goal

pub returns-clause-read : goal.returns-clause-read
returns-clause-read c = reads_all c.args.text.now _ _ c.decode_digits.result c.requires c.decode_digits.ensures.reads

pub returns-clause-refused : goal.returns-clause-refused
returns-clause-refused c is = refused c.args.text.now c.decode_digits.result is c.decode_digits.ensures.all
