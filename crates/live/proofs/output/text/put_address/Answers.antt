use Rattle.text_io.specs.BufferLaws.{Puts-same}
use Rattle.live.proofs.output.text.put_address.Goals as goal

pub returns : goal.returns
returns g c = Puts-same c.address_text.ensures c.put.ensures
