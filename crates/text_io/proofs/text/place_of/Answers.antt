use Rattle.text_io.proofs.OctetPlaces.{place_is_position}
use Rattle.text_io.proofs.text.place_of.Goals as goal

pub returns : goal.returns
returns c = place_is_position c.args.octet c.args.text.now c.memchr.result c.memchr.ensures
