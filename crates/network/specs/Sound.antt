-- What holds of every network that events make of an empty one (profile, but where a clause is named).
use Rattle.std.specs.Prelude.{ℕ, ◌+◌, ◌<◌, ◌≤◌, length}
use Rattle.ap_config.specs.declared.setting.Setting.{Setting}
use Rattle.network.specs.Network.{Network}
use Rattle.network.specs.Sizes.{AreFitting}
use Rattle.roster.specs.KeptUnits.{AreKeptFor, CameBy}
use Rattle.stations.specs.Sound.{AreSound}

-- a network that took this number of events, and lost and keeps at most this number of units together
pub record IsSoundNetwork (s : Setting) (events units : ℕ) (n : Network) : Type 0 where
  pub stations : AreSound s.network.max_stations n.stations
  pub known : length n.stations ≤ s.network.max_known
  pub kept : AreKeptFor n.stations n.kept
  pub came : CameBy n.clock n.kept
  -- 9.2.4.7.1
  pub sizes : AreFitting n.kept
  pub quota : length n.kept ≤ s.network.quota
  -- twelve bits (9.2.4.4.2)
  pub sequence : n.sequence < 4096
  -- no more events are unread than it took, and no more of them are ticks
  pub unread : n.unread ≤ events
  pub clock : n.clock ≤ events
  pub lost : n.lost + length n.kept ≤ units
