-- What holds of the stations of every network that events make of an empty one (profile, but where a clause is named).
use Rattle.std.specs.Prelude.{ℕ, ◌≤◌, length}
-- no station stands twice
pub use Rattle.address_map.specs.Entries.{AreApart}
use Rattle.stations.specs.Stations.{Table, identifiers, AreIdentifiers}

-- stations of which at most `most` are associated
pub record AreSound (most : ℕ) (stations : Table) : Type 0 where
  pub addresses : AreApart stations
  -- no two have the same identifier (IEEE Std 802.11-2016, 9.4.1.8)
  pub aids : AreIdentifiers (identifiers stations)
  pub associated : length (identifiers stations) ≤ most
