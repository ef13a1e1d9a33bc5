-- The oldest unit for each: the first of its queue.
use Rattle.std.proofs.Common.{◌≡◌, ℕ, true, false, cond, List, [], ◌∷◌, ◌++◌, map, Option, Some, None, refl, sym, ap, ◌∙◌, inl, inr}
use Rattle.std.specs.List.{IsDistinct}
use Rattle.std.specs.Map.{keys_of}
use Rattle.std.proofs.lemmas.Bool.{cases_Bool}
use Rattle.std.proofs.lemmas.Map.{NonePasses}
use Rattle.std.proofs.lemmas.Map.Keys.{IsDistinct-head, IsDistinct-tail}
use Rattle.powersave.specs.declared.unit.Whom.{Whom}
use Rattle.powersave.specs.declared.unit.Oldest.{Oldest}
use Rattle.powersave.specs.declared.queues.Arrived.{Arrived}
use Rattle.powersave.specs.Keep.{oldest_at, first_clock, AreOldest, AreToldOnce}
use Rattle.powersave.specs.Queues.{Queues, is_whom, queue_for, oldest_of, oldest_in, entries_in, Numbers, AreSound}
use Rattle.powersave.proofs.Merges.{IsOnce}
use Rattle.powersave.proofs.Parts.{is_same-refl}
use Rattle.powersave.proofs.QueueSteps.{none_named, once, units_for-entries_in}

abbrev clock_of : List Arrived → Option ℕ
clock_of queue = first_clock (map (λ a. a.unit) queue)

-- a queue for another tells nothing of one
passed : (whom other : Whom) (queue : List Arrived) (os : List Oldest) → is_whom whom other ≡ false → oldest_at whom (oldest_of other queue ++ os) ≡ oldest_at whom os
passed whom other [] os apart = refl
passed whom other (a ∷ queue) os apart = ap (λ b. cond b (Some a.unit.at) (oldest_at whom os)) apart

-- none stands for one
none-told : (whom : Whom) (queues : Queues) → NonePasses (is_whom whom) queues → oldest_at whom (oldest_in queues) ≡ None
none-told whom [] none = refl
none-told whom (q ∷ queues) none = passed whom q.0 q.1.items (oldest_in queues) none.0 ∙ none-told whom queues none.1

-- its own queue tells its first unit
here-told : (whom other : Whom) (queue : List Arrived) (os : List Oldest) → is_whom whom other ≡ true → oldest_at whom os ≡ None → oldest_at whom (oldest_of other queue ++ os) ≡ clock_of queue
here-told whom other [] os here none = none
here-told whom other (a ∷ queue) os here none = ap (λ b. cond b (Some a.unit.at) (oldest_at whom os)) here

told : (whom : Whom) (queues : Queues) → IsOnce (is_whom whom) queues → oldest_at whom (oldest_in queues) ≡ clock_of (queue_for whom queues)
told whom [] apart = refl
told whom (q ∷ queues) apart = elim (cases_Bool (is_whom whom q.0)) [
  | inl here ↦ rw here (here-told whom q.0 q.1.items (oldest_in queues) here (none-told whom queues (apart.0 here)))
  | inr away ↦ rw away (passed whom q.0 q.1.items (oldest_in queues) away ∙ told whom queues apart.1)
]

pub all-told : (next : Numbers) (queues : Queues) → AreSound next queues → AreOldest (oldest_in queues) (entries_in queues)
all-told next queues sound whom =
    told whom queues (once whom queues sound.one_each)
    ∙ sym (ap first_clock (units_for-entries_in next whom queues sound))

-- each queue is told once at most
pub told-once : (queues : Queues) → IsDistinct is_whom (keys_of queues) → AreToldOnce (oldest_in queues)
told-once [] apart = tt
told-once (q ∷ queues) apart = by q.1.items (told-once queues (IsDistinct-tail is_whom q.0 (keys_of queues) apart))
  where
    by : (queue : List Arrived) → AreToldOnce (oldest_in queues) → AreToldOnce (oldest_of q.0 queue ++ oldest_in queues)
    by [] rest = rest
    by (a ∷ queue) rest =
        (none-told q.0 queues (none_named q.0 q.0 queues (is_same-refl q.0) (IsDistinct-head is_whom q.0 (keys_of queues) apart)), rest)
