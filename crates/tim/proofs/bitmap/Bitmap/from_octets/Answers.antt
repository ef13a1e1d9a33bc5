use Rattle.tim.specs.Bitmap.{has_bit}
use Rattle.tim.proofs.Aids.{aids_where-octets, aids_where-aid, no_bit_0}
use Rattle.tim.proofs.bitmap.Bitmap.from_octets.Goals as goal

pub invariant_of-result : goal.invariant_of-result
invariant_of-result c =
    no_bit_0 c.from_place.result c.args.first c.args.octets.now c.requires.no_number_0 c.from_place.ensures

pub returns-clause-numbers : goal.returns-clause-numbers
returns-clause-numbers c =
    aids_where-octets c.from_place.result c.args.first c.args.octets.now c.requires.within c.requires.no_number_0 c.from_place.ensures

pub returns-clause-aids : goal.returns-clause-aids
returns-clause-aids c = aids_where-aid (has_bit c.from_place.result)
