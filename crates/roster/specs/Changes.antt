-- What stays of the units that are kept where some leave, one comes or a station changes: what follows from the
-- definitions, as the laws of this crate say it.
use Rattle.std.specs.Prelude.{ℕ, ◌≡◌, ◌≤◌, ◌+◌, Bool, true, false, nat_lt, List, [], ◌∷◌, ◌++◌, filter, length, take, drop}
use Rattle.std.specs.List.{AllByRecursion, list_any}
use Rattle.std.specs.Str.{bytes_eq}
use Rattle.powersave.specs.Keep.{Entry, is_for, units_for, without_all, without_first, without_oldest}
use Rattle.powersave.specs.Returns.{put_back}
use Rattle.powersave.specs.declared.unit.Unit.{Unit as DataUnit}
use Rattle.powersave.specs.declared.unit.Whom.{Whom}
use Rattle.powersave.specs.declared.unit.Whom.TheVariants.{One, Group}
use Rattle.stations.specs.Stations.{Table, state_of, is_dozing, changed, IsModeAlone}
use Rattle.stations.specs.declared.table.Change.{Change}
use Rattle.roster.specs.KeptUnits.{IsKeptFor, AreKeptFor, CameBy, group_is_kept, is_too_old}
use Rattle.roster.specs.Keeping.{aid_for}

-- units are kept for stations that doze (IEEE Std 802.11-2016, 11.2.3.2)
pub record KeptForDozing : Type 0 where
  -- where whoever dozed dozes still
  pub dozing : (before after : Table) → ((addr : List ℕ) → is_dozing addr before ≡ true → is_dozing addr after ≡ true)
      → (kept : List Entry) → AreKeptFor before kept → AreKeptFor after kept
  -- where one station changed, and the units for it left
  pub beside : (addr : List ℕ) (before after : Table)
      → ((other : List ℕ) → bytes_eq other addr ≡ false → state_of other after ≡ state_of other before)
      → (kept : List Entry) → AreKeptFor before kept → AreKeptFor after (without_all (One addr) kept)
  -- where some left, or one, or one came
  pub some : (table : Table) (stays : Entry → Bool) (kept : List Entry) → AreKeptFor table kept
      → AreKeptFor table (filter stays kept)
  pub one_left : (table : Table) (leaves : Entry → Bool) (kept : List Entry) → AreKeptFor table kept
      → AreKeptFor table (without_first leaves kept)
  pub one_came : (table : Table) (whom : Whom) (unit : DataUnit) (kept : List Entry) → AreKeptFor table kept
      → IsKeptFor table whom → AreKeptFor table (kept ++ (whom, unit) ∷ [])

-- units stand as they came (profile)
pub record CameInTurn : Type 0 where
  pub some : (stays : Entry → Bool) (clock : ℕ) (kept : List Entry) → CameBy clock kept → CameBy clock (filter stays kept)
  pub one_left : (leaves : Entry → Bool) (clock : ℕ) (kept : List Entry) → CameBy clock kept
      → CameBy clock (without_first leaves kept)
  pub one_came : (whom : Whom) (unit : DataUnit) (clock : ℕ) (kept : List Entry) → unit.at ≡ clock → CameBy clock kept
      → CameBy clock (kept ++ (whom, unit) ∷ [])
  pub later : (clock later : ℕ) (kept : List Entry) → clock ≤ later → CameBy clock kept → CameBy later kept
  -- and where one came back that isn't older than those for its receiver before it, nor younger than those behind it
  pub one_back : (whom : Whom) (before : ℕ) (unit : DataUnit) (clock : ℕ) (kept : List Entry) → unit.at ≤ clock
      → AllByRecursion (λ earlier. earlier.at ≤ unit.at) (take before (units_for whom kept))
      → AllByRecursion (λ later. unit.at ≤ later.at) (drop before (units_for whom kept))
      → CameBy clock kept → CameBy clock (put_back whom before unit kept)

-- how many units are kept
pub record KeptCounts : Type 0 where
  pub some : (stays : Entry → Bool) (kept : List Entry) → length (filter stays kept) ≤ length kept
  pub one_left : (leaves : Entry → Bool) (kept : List Entry) → length (without_first leaves kept) ≤ length kept
  -- those for one and the others are all
  pub parted : (whom : Whom) (kept : List Entry)
      → length (units_for whom kept) + length (without_all whom kept) ≡ length kept
  -- where some are for one, one stands among them
  pub any : (whom : Whom) (kept : List Entry) → list_any (is_for whom) kept ≡ nat_lt 0 (length (units_for whom kept))
  -- none leaves where none is there
  pub none : (whom : Whom) (kept : List Entry) → units_for whom kept ≡ [] → without_oldest whom kept ≡ kept

-- units for the group stay until the next DTIM, whoever leaves, and don't age (11.2.3.2 and profile)
pub record GroupStays : Type 0 where
  pub beside : (addr : List ℕ) (kept : List Entry) → group_is_kept (without_all (One addr) kept) ≡ group_is_kept kept
  pub young : (clock : ℕ) (table : Table) (entry : Entry) → is_for Group entry ≡ true
      → is_too_old clock table entry ≡ false

-- a mode is nothing to whom a unit is kept for
abbrev pub ModesKeepIdentifiers : Type 0
ModesKeepIdentifiers = (change : Change) (whom : Whom) (table : Table) → IsModeAlone change
    → aid_for whom (changed change table) ≡ aid_for whom table
