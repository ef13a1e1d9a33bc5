use Rattle.std.proofs.Common.{◌∙◌, ap, length, arith, Fits, w8}
use Rattle.std.proofs.lemmas.List.{length-map}
use Rattle.std.proofs.lemmas.Simd.{Each1-get_or}
use Rattle.text_io.proofs.DigitValues.{below_16_at, value_at, value_of, values_are}
use Rattle.text_io.proofs.digits.decoding.digit_values.Goals as goal

pub returns-clause-len : goal.returns-clause-len
returns-clause-len c =
    ap length (values_are c.args.characters c.fits-characters.0) ∙ length-map c.args.characters value_of
    ∙ c.fits-characters.0

pub returns-clause-value : goal.returns-clause-value
returns-clause-value c j = value_at c.args.characters j c.fits-characters.0

pub returns-clause-digit : goal.returns-clause-digit
returns-clause-digit c j lt =
    let long = c.fits-characters.0 in
    let fits = (Each1-get_or (Fits w8) c.args.characters j 0 (omega (arith, long)) c.fits-characters.1).fits in
    below_16_at c.args.characters j long lt fits
