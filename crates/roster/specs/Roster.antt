-- The stations of a network with the units that are kept for them (IEEE Std 802.11-2016, 11.2.3), and the association
-- identifiers of those that units are kept for.
use Rattle.std.specs.Prelude.{ℕ, ◌-◌, ◌≤◌, ◌≡◌, ◌≢◌, ◌==◌, ◌&&◌, nat_lt, Bool, true, false, not, List, [], length, Option}
use Rattle.std.specs.Prelude.{Some, None}
use Rattle.std.specs.FinSet as set
use Rattle.std.specs.Ordering.{nat_cmp}
use Rattle.std.specs.List.{AllByRecursion}
use Rattle.std.specs.Option.{IsSomeAnd}
use Rattle.powersave.specs.Keep.{Entry, Kept, units_for, oldest_at}
use Rattle.powersave.specs.declared.unit.Oldest.{Oldest}
use Rattle.powersave.specs.declared.unit.Whom.{Whom}
use Rattle.powersave.specs.declared.unit.Whom.TheVariants.{One, Group}
use Rattle.powersave.specs.declared.unit.Unit.{Unit as DataUnit}
use Rattle.tim.specs.Tim.{SameNumbers}
use Rattle.roster.specs.AgingClocks.{HaveClocks, AreNoSooner}
use Rattle.roster.specs.declared.aging_clocks.AgingClock.{AgingClock}
use Rattle.stations.specs.Sound.{AreSound}
use Rattle.stations.specs.Stations.{Table, StationTable, state_of, listen_with}
use Rattle.roster.specs.KeptUnits.{is_waited_for, is_too_old}
use Rattle.stations.specs.declared.table.Change.{Change}
use Rattle.stations.specs.declared.table.Change.TheVariants as changes

-- what contracts see: the stations, and the units that are kept
pub record RosterState : Type 0 where
  pub stations : StationTable
  pub kept : Kept

-- no station is known, and no unit is kept
abbrev pub empty_roster : ℕ → ℕ → RosterState
empty_roster most quota = record {
  stations = record { most = most; table = [] };
  kept = record { quota = quota; entries = []; reserved = None; puts = 0; in_front = 0 };
}

-- the numbers are the identifiers of the stations that units are kept for
abbrev pub AreWaitedFor : set.FinSet nat_cmp → Table → List Entry → Type 0
AreWaitedFor numbers table kept = SameNumbers (set.contains numbers) (is_waited_for table kept)

-- what is kept of the identifiers, and of the clocks where they are complete, beside the stations and the units
pub record IsRoster (numbers : set.FinSet nat_cmp) (complete : Bool) (clocks : List AgingClock) (aids : List ℕ)
    (soonest : ℕ) (r : RosterState) : Type 0 where
  -- association identifiers (IEEE Std 802.11-2016, 9.4.1.8)
  pub limit : r.stations.most ≤ 2007
  pub sound : AreSound r.stations.most r.stations.table
  pub traffic : AreWaitedFor numbers r.stations.table r.kept.entries
  pub aging : complete ≡ true → HaveClocks clocks aids r.stations.table r.kept.entries
  pub young : complete ≡ true → AreNoSooner soonest clocks aids

-- a number is this one, if there is one
abbrev pub is_number : Option ℕ → ℕ → Bool
is_number None n = false
is_number (Some aid) n = n == aid

-- the station whose identifier a change may change
abbrev pub renumbered : Change → Option (List ℕ)
renumbered changes.Nothing = None
renumbered (changes.Authenticate addr) = Some addr
renumbered (changes.Associate addr listen) = Some addr
renumbered (changes.Disassociate addr) = Some addr
renumbered (changes.Forget addr) = Some addr
renumbered (changes.SetMode addr doze) = None

-- the units for any other stayed
abbrev pub StayBeside : Whom → List Entry → List Entry → Type 0
StayBeside whom before after = (other : Whom) → whom ≢ other → units_for other after ≡ units_for other before

-- Where numbers are the identifiers of the stations that units were kept for, and those for one alone changed, the new
-- numbers are the identifiers of those that units are kept for then.
abbrev pub Follows : StationTable → Whom → (waits : Bool) → (old new : set.FinSet nat_cmp) → Type 0
Follows stations whom waits old new =
    (before after : List Entry) → StayBeside whom before after → waits ≡ nat_lt 0 (length (units_for whom after))
    → AreWaitedFor old stations.table before → AreWaitedFor new stations.table after

-- so it is where units for one left at most: some stay only where some were kept
abbrev pub FollowsLoss : StationTable → Whom → (waits : Bool) → (old new : set.FinSet nat_cmp) → Type 0
FollowsLoss stations whom waits old new =
    (before after : List Entry) → StayBeside whom before after
    → (nat_lt 0 (length (units_for whom after)) ≡ true → nat_lt 0 (length (units_for whom before)) ≡ true)
    → waits ≡ nat_lt 0 (length (units_for whom after))
    → AreWaitedFor old stations.table before → AreWaitedFor new stations.table after

-- ---- units that are too old

-- where units age, one that is too old
abbrev pub is_aged : Bool → ℕ → Table → Entry → Bool
is_aged ages clock table entry = ages && is_too_old clock table entry

-- each unit that is too old is for one of these, and came at the clock that is told of it or later
abbrev pub AreAmong : ℕ → Table → List Oldest → List Entry → Type 0
AreAmong clock table oldest kept = AllByRecursion (λ entry. is_too_old clock table entry ≡ true
    → IsSomeAnd (oldest_at entry.0 oldest) (λ at. at ≤ entry.1.at)) kept

-- where units age, those are told for whom one may be too old, and else none
abbrev pub AgesBy : Bool → ℕ → Table → Option (List Oldest) → List Entry → Type 0
AgesBy ages clock table None kept = ages ≡ false
AgesBy ages clock table (Some oldest) kept = (ages ≡ true) × AreAmong clock table oldest kept

-- those for one that came before this clock
abbrev pub limit_for : ℕ → Table → Whom → ℕ
limit_for clock table (One addr) = clock - listen_with (state_of addr table)
limit_for clock table Group = 0

-- one of its units isn't too old
abbrev pub stays : ℕ → Table → Whom → DataUnit → Bool
stays clock table whom unit = not (nat_lt unit.at (limit_for clock table whom))
