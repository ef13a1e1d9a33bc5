-- Copies of an event, one pair for each place (profile).
use Rattle.std.specs.Prelude.{ℕ, ◌≡◌, ◌↔◌, List, [], ◌∷◌, map, Option, Some, None}
use Rattle.std.specs.List.{range_with_len}
use Rattle.ap_config.specs.Configuration.{most_networks}
use Rattle.ap_config.specs.declared.config.RadioConfig.{RadioConfig}
use Rattle.events.specs.declared.event.Event.{Event}
use Rattle.events.specs.declared.line.Line.{Line}
use Rattle.workers.specs.Giving.{heard_at}
use Rattle.workers.specs.declared.copies.Copies.{Copies}
use Rattle.workers.specs.declared.outcome.Outcome.{Outcome}
use Rattle.workers.specs.declared.outcome.Outcome.TheVariants.{NotHeard}

abbrev pub copies_of_event : Event → Copies
copies_of_event e = record { offered = e; kept = e }

abbrev pub copies_of : List Event → Option Copies
copies_of [] = None
copies_of (e ∷ es) = Some (copies_of_event e)

-- those of the event of a line at a place, if there is a network that hears it
abbrev pub copies_at : RadioConfig → Line → ℕ → Option Copies
copies_at config line place = copies_of (heard_at config line place)

-- those of all places
abbrev pub AreCopies : RadioConfig → Line → List (Option Copies) → Type 0
AreCopies config line copies = copies ≡ map (copies_at config line) (range_with_len 0 most_networks)

-- an outcome is `NotHeard` just where there were no copies
abbrev pub IsOffered : Option Copies → Outcome → Type 0
IsOffered copies outcome = (outcome ≡ NotHeard) ↔ (copies ≡ None)
