-- The queues of the units that are kept, one for each for whom units are kept, and the one list that they make.
use Rattle.std.specs.Prelude.{ℕ, ◌≡◌, ◌+◌, ◌^◌, ◌<◌, ◌≤◌, ◌++◌, Bool, List, [], ◌∷◌, length, map, nat_lt, take, drop}
use Rattle.std.specs.Prelude.{Option, Some, None}
use Rattle.std.specs.Prelude.{unwrap_or, if◌then◌else◌}
use Rattle.std.specs.List.{AllByRecursion, IsDistinct, slice_get}
use Rattle.std.specs.Map.{keys_of, lookup}
use Rattle.std.specs.Option.{option_map, IsSomeAnd}
use Rattle.std.specs.declared.alloc.Global.{Global}
use Rattle.std.specs.declared.collections.VecDeque.{VecDeque}
use Rattle.mac_frame.specs.Data.{data_header}
use Rattle.powersave.specs.declared.unit.Whom.{Whom}
use Rattle.powersave.specs.declared.unit.Unit.{Unit as Msdu}
use Rattle.powersave.specs.declared.unit.Oldest.{Oldest}
use Rattle.powersave.specs.declared.queues.Arrived.{Arrived}
use Rattle.powersave.specs.Keep.{Entry, is_same, units_for, without_all, without_oldest, room_beside}
use Rattle.powersave.specs.Returns.{put_back}

abbrev pub Queue : Type 0
Queue = VecDeque Arrived Global

-- each queue, with whom it is for
abbrev pub Queues : Type 0
Queues = List (Whom × Queue)

-- ---- the queue for one

-- the same as this one
abbrev pub is_whom : Whom → Whom → Bool
is_whom whom other = is_same other whom

-- its units, each with its number; where there is no queue, none
abbrev pub queue_for : Whom → Queues → List Arrived
queue_for whom queues = unwrap_or (option_map (λ q. q.items) (lookup (is_whom whom) queues)) []

-- the unit that this many others stand before
abbrev pub unit_at : List Arrived → ℕ → Option Msdu
unit_at queue n = option_map (λ a. a.unit) (slice_get queue n)

-- for whom a queue is, with the clock of its first unit, if it has one
abbrev pub oldest_of : Whom → List Arrived → List Oldest
oldest_of whom [] = []
oldest_of whom (a ∷ queue) = (record { whom = whom; at = a.unit.at }) ∷ []

abbrev pub oldest_in : Queues → List Oldest
oldest_in [] = []
oldest_in (q ∷ queues) = oldest_of q.0 q.1.items ++ oldest_in queues

-- ---- one list of all units, by the numbers of their arrivals

-- a number, and the unit with whom it is kept for
abbrev pub Arrival : Type 0
Arrival = ℕ × Entry

abbrev pub arrival_for : Whom → Arrived → Arrival
arrival_for whom a = (a.number, (whom, a.unit))

-- one more, before the first that has a greater number
abbrev pub put_in_order : Arrival → List Arrival → List Arrival
put_in_order a [] = a ∷ []
put_in_order a (b ∷ bs) = if nat_lt a.0 b.0 then a ∷ b ∷ bs else b ∷ put_in_order a bs

-- a queue among the units of others
abbrev pub merged : Whom → List Arrived → List Arrival → List Arrival
merged whom [] others = others
merged whom (a ∷ queue) others = put_in_order (arrival_for whom a) (merged whom queue others)

abbrev pub arrivals : Queues → List Arrival
arrivals [] = []
arrivals (q ∷ queues) = merged q.0 q.1.items (arrivals queues)

abbrev pub entries_in : Queues → List Entry
entries_in queues = map (λ a. a.1) (arrivals queues)

-- ---- what the queues keep

-- the number of the first unit: half of all numbers are below it, for units that are put in front of all others
abbrev pub first_number : ℕ
first_number = 2 ^ 62

-- how many numbers were given to units that were put last, and how many to those in front of all others
pub record Numbers : Type 0 where
  pub last : ℕ
  pub in_front : ℕ

abbrev pub with_last : ℕ → Numbers → Numbers
with_last n given = record given { last = given.last + n }

abbrev pub with_front : ℕ → Numbers → Numbers
with_front n given = record given { in_front = given.in_front + n }

-- the numbers of a queue rise, and are among those that were given
abbrev pub IsNumbered : Numbers → List Arrived → Type 0
IsNumbered given [] = Unit {0}
IsNumbered given (a ∷ queue) =
    (a.number < first_number + given.last) × AllByRecursion (λ b. a.number < b.number) queue × IsNumbered given queue
    × (first_number ≤ a.number + given.in_front)

abbrev pub AreNumbered : Numbers → Queues → Type 0
AreNumbered given queues = AllByRecursion (λ q. IsNumbered given q.1.items) queues

-- the numbers rise, so that no two units have the same
abbrev pub IsRising : List Arrival → Type 0
IsRising [] = Unit {0}
IsRising (a ∷ bs) = AllByRecursion (λ b. a.0 < b.0) bs × IsRising bs

-- no two are for one, and no two units have the same number, be it in one queue or in two
pub record AreSound (given : Numbers) (queues : Queues) : Type 0 where
  pub one_each : IsDistinct is_whom (keys_of queues)
  pub numbered : AreNumbered given queues
  pub apart : IsRising (arrivals queues)

-- the one for whom room is reserved, if for any, has a queue with room for one unit more
abbrev pub HasRoom : Option Whom → Queues → Type 0
HasRoom None queues = Unit {0}
HasRoom (Some whom) queues = IsSomeAnd (lookup (is_whom whom) queues) (λ q. q.len < q.cap)

-- what the list keeps: how many units there may be and are, how many were put last and in front, and for whom there is
-- room
pub record AreKept (quota len puts in_front : ℕ) (reserved : Option Whom) (queues : Queues) : Type 0 where
  pub sound : AreSound (record { last = puts; in_front = in_front }) queues
  pub counted : len ≡ length (entries_in queues)
  pub within : len ≤ quota
  pub room : HasRoom reserved queues

-- ---- what becomes of them

-- the oldest unit for one is gone
pub record Pops (whom : Whom) (old : Queues) (taken : Option Msdu) (new : Queues) : Type 0 where
  pub unit : (given : Numbers) → AreSound given old → taken ≡ slice_get (units_for whom (entries_in old)) 0
  pub rest : (given : Numbers) → AreSound given old → entries_in new ≡ without_oldest whom (entries_in old)
  pub sound : (given : Numbers) → AreSound given old → AreSound given new
  pub room : (reserved : Option Whom) → HasRoom reserved old → HasRoom (room_beside whom reserved) new

-- the oldest unit for one is gone as a frame, which tells whether others follow
abbrev pub SendsOne : (whom : Whom) (bss : List ℕ) (sequence : ℕ) (old : Queues)
    → List ℕ → Bool → Msdu → (new : Queues) → Type 0
SendsOne whom bss sequence old frame follows unit new = Pops whom old (Some unit) new
    × (frame ≡ data_header unit.to bss unit.source sequence follows ++ unit.body)
    × (follows ≡ nat_lt 1 (length (queue_for whom old)))

abbrev pub Sends : (whom : Whom) (bss : List ℕ) (sequence : ℕ) (old : Queues)
    → Option (List ℕ × Bool) → (new : Queues) → Type 0
Sends whom bss sequence old None new = Pops whom old None new
Sends whom bss sequence old (Some sent) new = (unit : Msdu) × SendsOne whom bss sequence old sent.0 sent.1 unit new

-- all units for one are gone, as many as are told
pub record Removes (whom : Whom) (old : Queues) (removed : ℕ) (new : Queues) : Type 0 where
  pub count : (given : Numbers) → AreSound given old → removed ≡ length (units_for whom (entries_in old))
  pub rest : (given : Numbers) → AreSound given old → entries_in new ≡ without_all whom (entries_in old)
  pub sound : (given : Numbers) → AreSound given old → AreSound given new
  pub room : (reserved : Option Whom) → HasRoom reserved old → HasRoom (room_beside whom reserved) new

-- the units stay, and so does the room that there was
pub record MakesRoom (old new : Queues) : Type 0 where
  pub units : entries_in new ≡ entries_in old
  pub sound : (given : Numbers) → AreSound given old → AreSound given new
  pub room : (reserved : Option Whom) → HasRoom reserved old → HasRoom reserved new

-- a unit for one came, the last of all, with the number of the next one
pub record Pushes (whom : Whom) (arrived : Arrived) (old new : Queues) : Type 0 where
  pub units : (given : Numbers) → arrived.number ≡ first_number + given.last → AreSound given old
      → entries_in new ≡ entries_in old ++ (whom, arrived.unit) ∷ []
  pub sound : (given : Numbers) → arrived.number ≡ first_number + given.last → AreSound given old
      → AreSound (with_last 1 given) new

-- ---- a unit that comes back

-- units with numbers, one after the other, from this one on
abbrev pub numbered_from : ℕ → List Msdu → List Arrived
numbered_from n [] = []
numbered_from n (u ∷ us) = (record { number = n; unit = u }) ∷ numbered_from (n + 1) us

-- the units of a queue
abbrev pub units_of : List Arrived → List Msdu
units_of queue = map (λ a. a.unit) queue

-- a queue with one more unit behind the first ones, where these and it have new numbers from this one on
abbrev pub queue_with : ℕ → (before : ℕ) → Msdu → List Arrived → List Arrived
queue_with first before unit queue =
    numbered_from first (units_of (take before queue) ++ unit ∷ []) ++ drop before queue

-- a unit for one came back behind the first ones for it; they and it have the numbers below all others
pub record PutsBack (whom : Whom) (first before : ℕ) (unit : Msdu) (old new : Queues) : Type 0 where
  pub units : (given : Numbers) → first + (before + 1) + given.in_front ≡ first_number → AreSound given old
      → entries_in new ≡ put_back whom before unit (entries_in old)
  pub sound : (given : Numbers) → first + (before + 1) + given.in_front ≡ first_number → AreSound given old
      → AreSound (with_front (before + 1) given) new

-- ---- a queue that is handed over

-- the units of one are gone, and were these
pub record Takes (whom : Whom) (old : Queues) (taken : List Arrived) (new : Queues) : Type 0 where
  pub units : (given : Numbers) → AreSound given old → units_of taken ≡ units_for whom (entries_in old)
  pub gone : Removes whom old (length taken) new
