use Rattle.std.proofs.Common.{refl}
use Rattle.stations.proofs.StationTables.{set_state-unknown}
use Rattle.stations.proofs.Restored.{restored-sound, as-associated}
use Rattle.stations.proofs.laws.restored_stay_sound.Goals as goal

pub returns-clause-sound : goal.returns-clause-sound
returns-clause-sound c = restored-sound c.addresses_stay_apart.ensures

pub returns-clause-same : goal.returns-clause-same
returns-clause-same c = record { last = set_state-unknown; authenticated = λ addr table. refl; associated = as-associated }
