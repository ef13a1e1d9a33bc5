-- What a network made of an event (profile).
use Rattle.std.specs.Prelude.{ℕ, Result, Ok, Err}
use Rattle.network.specs.declared.bss.Refusal.{Refusal}
use Rattle.network.specs.declared.bss.Refusal.TheVariants as refusals
use Rattle.workers.specs.declared.outcome.Outcome.{Outcome}
use Rattle.workers.specs.declared.outcome.Outcome.TheVariants.{Took, Full, NoMemory}

-- what the network answered
abbrev pub outcome_of : Result ℕ Refusal → Outcome
outcome_of (Ok number) = Took number
outcome_of (Err refusals.HistoryFull) = Full
outcome_of (Err refusals.NoMemory) = NoMemory
