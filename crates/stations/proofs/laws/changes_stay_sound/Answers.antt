use Rattle.stations.proofs.StationsSound.{changed-sound}
use Rattle.stations.proofs.laws.changes_stay_sound.Goals as goal

pub returns : goal.returns
returns c = changed-sound c.addresses_stay_apart.ensures c.least_is_free.ensures.some
