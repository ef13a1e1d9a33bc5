-- Why sources could not be played (profile).
use Rattle.std.specs.Prelude.{ℕ, Bool, ⊤}
use Rattle.ap_config.specs.Configuration.{is_between}
use Rattle.ap_config.specs.declared.open_fault.OpenFault.{OpenFault}
use Rattle.ap_config.specs.declared.open_fault.OpenFault.TheVariants as opening
use Rattle.play.specs.declared.finish_fault.FinishFault.TheVariants as ends
use Rattle.play.specs.declared.play_fault.PlayFault.{PlayFault}
use Rattle.play.specs.declared.play_fault.PlayFault.TheVariants as faults

-- there are 1 to 64 callers
abbrev pub callers_fit : ℕ → Bool
callers_fit = is_between 1 64

-- what becomes of a fault of the parts
abbrev pub play_fault_of : OpenFault → PlayFault
play_fault_of (opening.Config fault) = faults.Config fault
play_fault_of opening.Callers = faults.Sources
play_fault_of opening.NoMemory = faults.NoMemory

-- A fault that comes after the configuration and the sources were tested. Where memory ran out it is `NoMemory`, also
-- while the access point is finished.
abbrev pub IsLater : PlayFault → Type 0
IsLater (faults.Config fault) = ⊥
IsLater faults.Sources = ⊥
IsLater faults.NoThread = ⊤
IsLater faults.NoMemory = ⊤
IsLater (faults.Finish ends.NoMemory) = ⊥
IsLater (faults.Finish fault) = ⊤

-- A fault that a play may still end with whose every source gives all its lines: of those of finishing it, only that a
-- network was not given all of them, or that a frame of it still waits. Nobody knows what stands under a lock once the
-- threads have ended, so it is looked at; no test has met it.
abbrev pub IsPlayFault : PlayFault → Type 0
IsPlayFault faults.NoThread = ⊤
IsPlayFault faults.NoMemory = ⊤
IsPlayFault (faults.Finish ends.Uncovered) = ⊤
IsPlayFault fault = ⊥
