-- What a caller gives to the networks of an access point, and what it keeps of their answers (profile).
use Rattle.std.specs.Prelude.{ℕ, ◌≡◌, ◌<◌, ◌↔◌, List, [], ◌∷◌, ◌++◌, Some, slice_get, if◌then◌else◌}
use Rattle.std.specs.List.{flat_map, enumerate_from}
use Rattle.ap_config.specs.Configuration.{most_networks}
use Rattle.events.specs.Lines.{heard_of}
use Rattle.ap_config.specs.Places.{names_network, network_at}
use Rattle.network.specs.declared.bss.Refusal.TheVariants as refusals
use Rattle.ap_config.specs.declared.config.RadioConfig.{RadioConfig}
use Rattle.events.specs.declared.event.Event.{Event}
use Rattle.events.specs.declared.line.Line.{Line}
use Rattle.workers.specs.declared.caller.Entry.{Entry}
use Rattle.workers.specs.declared.caller.Entry.TheVariants.{Receipt, Refused}
use Rattle.workers.specs.declared.outcome.Outcome.{Outcome}
use Rattle.workers.specs.declared.outcome.Outcome.TheVariants.{NotHeard, Took, Full, NoMemory}

-- ---- what is heard

-- the events of a line at a place: none where there is no network, or where the network does not hear the line
abbrev pub heard_at : RadioConfig → Line → ℕ → List Event
heard_at config line place =
    if names_network config place then heard_of place (network_at config place).bssid line else []

-- Of the outcomes of a line, one for each place, those are `NotHeard` whose place has no network or one that does not
-- hear the line.
abbrev pub AreHeard : RadioConfig → Line → List Outcome → Type 0
AreHeard config line outcomes =
    (place : ℕ) → place < most_networks → (slice_get outcomes place ≡ Some NotHeard) ↔ (heard_at config line place ≡ [])

-- ---- what a caller keeps

-- the entry of an event's outcome at a place
abbrev pub entry_of : Event → ℕ → Outcome → List Entry
entry_of e place NotHeard = []
entry_of e place (Took number) = Receipt place number e ∷ []
entry_of e place Full = Refused place refusals.HistoryFull ∷ []
entry_of e place NoMemory = Refused place refusals.NoMemory ∷ []

-- those of all its outcomes, in order of place
abbrev pub entries_of : Event → List Outcome → List Entry
entries_of e outcomes = flat_map (λ o. entry_of e o.0 o.1) (enumerate_from 0 outcomes)

-- after the old entries
abbrev pub AddsEntries : Event → List Entry → List Entry → List Outcome → Type 0
AddsEntries e old new outcomes = new ≡ old ++ entries_of e outcomes
