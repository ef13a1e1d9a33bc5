use Rattle.address_map.proofs.ChangedEntries.{apart-set, apart-removed}
use Rattle.address_map.proofs.laws.addresses_stay_apart.Goals as goal

pub returns : goal.returns
returns g c = record { set = apart-set; removed = apart-removed }
