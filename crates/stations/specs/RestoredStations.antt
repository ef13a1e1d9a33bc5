-- What follows of a station that is restored (IEEE Std 802.11-2016, 11.3), as the laws of this crate say it.
use Rattle.std.specs.Prelude.{ℕ, ◌≡◌, ◌++◌, ◌∷◌, [], Bool, List, None}
use Rattle.station_state.specs.declared.state.StationState.{StationState}
use Rattle.station_state.specs.declared.state.StationState.TheVariants.{Authenticated, Associated}
use Rattle.stations.specs.Stations.{Table, state_of, next_aid, authenticate, associate, set_mode}
use Rattle.stations.specs.Sound.{AreSound}
use Rattle.stations.specs.Restoring.{restore_fault, restored}

-- one that may be restored leaves sound stations
abbrev pub RestoredStaySound : Type 0
RestoredStaySound = (most known : ℕ) (addr : List ℕ) (state : StationState) (table : Table)
    → restore_fault most known addr state table ≡ None → AreSound most table → AreSound most (restored addr state table)

-- an unknown one stands last; it stands as the requests leave it that it may have come by
pub record RestoredAsItCame : Type 0 where
  pub last : (addr : List ℕ) (state : StationState) (table : Table) → state_of addr table ≡ None
      → restored addr state table ≡ table ++ (addr, state) ∷ []
  pub authenticated : (addr : List ℕ) (table : Table) → restored addr Authenticated table ≡ authenticate addr table
  pub associated : (addr : List ℕ) (aid listen : ℕ) (doze : Bool) (table : Table)
      → aid ≡ next_aid addr (authenticate addr table)
      → restored addr (Associated aid listen doze) table ≡ set_mode addr doze (associate addr listen (authenticate addr table))
