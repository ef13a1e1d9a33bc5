-- What a change of one station leaves as it was, and how identifiers tell stations apart (IEEE Std 802.11-2016,
-- 9.4.1.8): what follows from the definitions of a table, as the laws of this crate say it.
use Rattle.std.specs.Prelude.{ℕ, ◌≡◌, ◌≤◌, ◌+◌, Bool, true, false, not, ◌&&◌, List, length, Some, None, is_some, option_map}
use Rattle.std.specs.Prelude.{if◌then◌else◌}
use Rattle.std.specs.Str.{bytes_eq}
use Rattle.tim.specs.Tim.{IsAid}
use Rattle.aid_pool.specs.LeastFree.{is_among}
use Rattle.stations.specs.Stations.{Table, state_of, aid_of, identifiers, AreIdentifiers, is_dozing, set_state, forget}
use Rattle.stations.specs.Stations.{set_mode, with_mode, changed, IsAllowed}
use Rattle.stations.specs.Sound.{AreApart, AreSound}
use Rattle.stations.specs.declared.table.Change.{Change}
use Rattle.station_state.specs.declared.state.StationState.{StationState}

-- every other station keeps its state
pub record OthersStay : Type 0 where
  pub set : (addr other : List ℕ) (state : StationState) (table : Table) → bytes_eq other addr ≡ false
      → state_of other (set_state addr state table) ≡ state_of other table
  pub forgotten : (addr other : List ℕ) (table : Table) → bytes_eq other addr ≡ false
      → state_of other (forget addr table) ≡ state_of other table
  pub moded : (addr other : List ℕ) (doze : Bool) (table : Table) → bytes_eq other addr ≡ false
      → state_of other (set_mode addr doze table) ≡ state_of other table
  -- and so do all others together
  pub rest_set : (addr : List ℕ) (state : StationState) (table : Table)
      → forget addr (set_state addr state table) ≡ forget addr table
  pub rest_forgotten : (addr : List ℕ) (table : Table) → AreApart table
      → forget addr (forget addr table) ≡ forget addr table
  pub gone : (addr : List ℕ) (table : Table) → AreApart table → state_of addr (forget addr table) ≡ None

-- where the mode of one is set (11.2.3.2), only whether it dozes may change
pub record ModesAlone : Type 0 where
  pub state : (addr : List ℕ) (doze : Bool) (table : Table)
      → state_of addr (set_mode addr doze table) ≡ option_map (with_mode doze) (state_of addr table)
  pub identifier : (addr other : List ℕ) (doze : Bool) (table : Table)
      → aid_of other (set_mode addr doze table) ≡ aid_of other table
  pub same : (addr : List ℕ) (doze : Bool) (table : Table) → is_dozing addr table ≡ doze
      → set_mode addr doze table ≡ table
  -- an active station doesn't doze, and whoever dozed dozes still where none wakes
  pub active : (addr : List ℕ) (table : Table) → is_dozing addr (set_mode addr false table) ≡ false
  pub stays : (addr other : List ℕ) (doze : Bool) (table : Table) → (is_dozing addr table && not doze) ≡ false
      → is_dozing other table ≡ true → is_dozing other (set_mode addr doze table) ≡ true

-- an identifier is one of 1 to 2007, and that of one station alone
pub record IdentifiersDiffer : Type 0 where
  pub range : (addr : List ℕ) (table : Table) (aid : ℕ) → aid_of addr table ≡ Some aid
      → AreIdentifiers (identifiers table) → IsAid aid
  pub one : (addr other : List ℕ) (table : Table) (aid : ℕ) → AreIdentifiers (identifiers table)
      → aid_of addr table ≡ Some aid → aid_of other table ≡ Some aid → addr ≡ other
  pub rest : (addr : List ℕ) (table : Table) (aid : ℕ) → aid_of addr table ≡ Some aid
      → AreIdentifiers (identifiers table) → is_among (identifiers (forget addr table)) aid ≡ false

-- a change that is allowed leaves sound stations
abbrev pub StaySound : Type 0
StaySound = (most : ℕ) (change : Change) (table : Table) → most ≤ 2007 → IsAllowed most change table
    → AreSound most table → AreSound most (changed change table)

-- how many stations are known after a change of one
pub record LengthsAfter : Type 0 where
  pub set : (addr : List ℕ) (state : StationState) (table : Table)
      → length (set_state addr state table) ≡ length table + (if is_some (state_of addr table) then 0 else 1)
  pub forgotten : (addr : List ℕ) (table : Table) → length (forget addr table) ≤ length table
  pub moded : (addr : List ℕ) (doze : Bool) (table : Table) → length (set_mode addr doze table) ≡ length table
