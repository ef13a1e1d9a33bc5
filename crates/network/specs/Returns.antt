-- What a network may be told besides its events (profile): a unit that it sent in vain, or that waited as its station
-- began to doze, comes back, and stands again where it stood (IEEE Std 802.11-2016, 11.2.3).
use Rattle.std.specs.Prelude.{ℕ, zero, suc, ◌+◌, min, max, Bool, true, ◌&&◌, nat_lt, List, [], ◌∷◌, length, if◌then◌else◌}
use Rattle.powersave.specs.Keep.{units_for}
use Rattle.powersave.specs.Returns.{put_back}
use Rattle.powersave.specs.declared.unit.Whom.{Whom}
use Rattle.powersave.specs.declared.unit.Whom.TheVariants.{One, Group}
use Rattle.powersave.specs.declared.unit.Unit.{Unit as DataUnit}
use Rattle.stations.specs.Stations.{Table, is_dozing}
use Rattle.events.specs.declared.event.Event.{Event}
use Rattle.network.specs.Network.{Network, Setting, lose, step}
use Rattle.network.specs.Sizes.{FitsFrame}

-- The clock from which a unit ages that comes back behind the first of these: the one at which it was first kept. It is
-- no later than that of the unit behind it, and no sooner than that of the one before it.
abbrev pub clock_between : (before : ℕ) → (at : ℕ) → List DataUnit → ℕ
clock_between zero at [] = at
clock_between zero at (u ∷ us) = min at u.at
clock_between (suc n) at [] = at
clock_between (suc n) at (u ∷ us) = max u.at (clock_between n at us)

-- the unit as it is kept again, by a network at a clock
abbrev pub returned : (clock : ℕ) → (before : ℕ) → DataUnit → List DataUnit → DataUnit
returned clock before u us = record u { at = clock_between before (min u.at clock) us }

-- units are kept for a station that dozes, and for the group (11.2.3.2)
abbrev pub may_wait : Whom → Table → Bool
may_wait (One addr) table = is_dozing addr table
may_wait Group table = true

-- a unit comes back behind as many of those for its receiver, or is lost where none may be kept for it, or as many are
-- kept as may be
abbrev pub takes_back : Setting → Whom → (before : ℕ) → DataUnit → Network → Network
takes_back s whom before u n =
    if may_wait whom n.stations && nat_lt (length n.kept) s.network.quota
    then record n { kept = put_back whom before (returned n.clock before u (units_for whom n.kept)) n.kept }
    else lose n

-- what a network is told: an event, or a unit that comes back
pub data Told : Type 0 where
  Hears : Event → Told
  TakesBack : Whom → (before : ℕ) → DataUnit → Told

abbrev pub step_told : Setting → Network → Told → Network
step_told s n (Hears e) = step s n e
step_told s n (TakesBack whom before u) = takes_back s whom before u n

-- a network that was told this, the first of it first, and nothing else
abbrev pub after_told : Setting → Network → List Told → Network
after_told s n [] = n
after_told s n (t ∷ ts) = after_told s (step_told s n t) ts

-- how many events these are, and how many units that come back
abbrev pub events_in : List Told → ℕ
events_in [] = 0
events_in (Hears e ∷ ts) = events_in ts + 1
events_in (TakesBack whom before u ∷ ts) = events_in ts

abbrev pub returns_in : List Told → ℕ
returns_in [] = 0
returns_in (Hears e ∷ ts) = returns_in ts
returns_in (TakesBack whom before u ∷ ts) = returns_in ts + 1

-- each unit that comes back fits a frame, as each that was sent does
abbrev pub AreCarried : List Told → Type 0
AreCarried [] = Unit {0}
AreCarried (Hears e ∷ ts) = AreCarried ts
AreCarried (TakesBack whom before u ∷ ts) = FitsFrame u × AreCarried ts
