-- Units that come back to those that are kept (profile): a frame that carried one went unheard, so the unit stands again
-- where it stood among those for its receiver (IEEE Std 802.11-2016, 11.2.3). The units for all others keep their order.
use Rattle.std.specs.Prelude.{ℕ, zero, suc, Bool, List, ◌∷◌, [], ◌++◌, map, take}
use Rattle.powersave.specs.declared.unit.Whom.{Whom}
use Rattle.powersave.specs.declared.unit.Unit.{Unit as Msdu}
use Rattle.powersave.specs.Keep.{Entry, is_for, units_for, without_first}

-- without as many of the first that pass a test
abbrev pub without_firsts : {X : Type 0} → (X → Bool) → ℕ → List X → List X
without_firsts test zero xs = xs
without_firsts test (suc n) xs = without_firsts test n (without_first test xs)

-- without as many of the first units for one
abbrev pub without_first_of : Whom → ℕ → List Entry → List Entry
without_first_of whom n entries = without_firsts (is_for whom) n entries

-- where a unit for one comes back behind the first ones for it: these, and it
abbrev pub up_to_it : Whom → (before : ℕ) → Msdu → List Entry → List Msdu
up_to_it whom before unit entries = take before (units_for whom entries) ++ unit ∷ []

-- they go in front of all others, so that each part stays in its order
abbrev pub put_back : Whom → (before : ℕ) → Msdu → List Entry → List Entry
put_back whom before unit entries =
    map (λ u. (whom, u)) (up_to_it whom before unit entries) ++ without_first_of whom before entries
