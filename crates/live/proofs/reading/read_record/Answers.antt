use Rattle.std.proofs.lemmas.List.{take_rest}
use Rattle.live.proofs.reading.read_record.Goals as goal

pub returns : goal.returns
returns c = rw c.address_at-bssid.ensures at (rw take_rest at c.read_kind.ensures)
