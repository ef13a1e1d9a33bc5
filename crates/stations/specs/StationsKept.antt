-- How the stations of a network are kept (profile): the numbers that are out of a pool are their identifiers, and those
-- that doze are counted.
use Rattle.std.specs.Prelude.{ℕ, ◌≡◌, ◌≤◌, ◌+◌, List, [], ◌∷◌, length}
use Rattle.std.specs.Int.{from_bool}
use Rattle.std.specs.FinSet as set
use Rattle.std.specs.Ordering.{nat_cmp}
use Rattle.aid_pool.specs.LeastFree.{is_among}
use Rattle.stations.specs.Stations.{Table, AreIdentifiers, dozes, identifiers}

-- of which at most `most` are out
pub record AreOut (most : ℕ) (out : set.FinSet nat_cmp) (aids : List ℕ) : Type 0 where
  pub numbers : (n : ℕ) → set.contains out n ≡ is_among aids n
  pub count : set.len out ≡ length aids
  pub few : length aids ≤ most
  pub sound : AreIdentifiers aids

-- how many stations doze
abbrev pub dozing_count : Table → ℕ
dozing_count [] = 0
dozing_count (station ∷ stations) = from_bool (dozes station.1) + dozing_count stations

-- what is kept beside the stations themselves
pub record AreCounted (most : ℕ) (out : set.FinSet nat_cmp) (count : ℕ) (table : Table) : Type 0 where
  -- association identifiers (IEEE Std 802.11-2016, 9.4.1.8)
  pub limit : most ≤ 2007
  pub pool : AreOut most out (identifiers table)
  pub dozing : count ≡ dozing_count table
