-- Which caller gave which event of the networks' histories (profile).
use Rattle.std.specs.Prelude.{ℕ, ◌≡◌, ◌<◌, ◌≤◌, ◌==◌, Bool, true, false, List, [], length, map, drop, Option, Some, None, slice_get}
use Rattle.std.specs.Prelude.{slice_index_or, if◌then◌else◌}
use Rattle.std.specs.List.{enumerate_from, filter_map}
use Rattle.network.specs.BssView.{BssView}
use Rattle.network.specs.declared.bss.Refusal.TheVariants as refusals
use Rattle.events.specs.declared.event.Event.{Event}
use Rattle.events.specs.declared.section.Section.{Section}
use Rattle.play.specs.Givers.{dealt}
use Rattle.workers.specs.declared.caller.Entry.{Entry}
use Rattle.workers.specs.declared.caller.Entry.TheVariants.{Receipt, Refused}

-- ---- what callers were told

-- an entry, where it is a receipt of the network at a place: the event's number, and the event
abbrev pub receipt_for : ℕ → Entry → Option (ℕ × Event)
receipt_for place (Receipt named number e) = if named == place then Some (number, e) else None
receipt_for place (Refused named refusal) = None

-- the receipts among a caller's entries for the network at a place, in order
abbrev pub receipts_of : ℕ → List Entry → List (ℕ × Event)
receipts_of place entries = filter_map (receipt_for place) entries

-- ---- what networks took

-- how many each may take
abbrev pub limits_of : List Section → List ℕ
limits_of sections = map (λ s. s.config.max_events) sections

-- each event of a history with its number, from 0
abbrev pub numbered : List Event → List (ℕ × Event)
numbered history = enumerate_from 0 history

-- ---- how they agree

-- A caller's receipts for a network are, in order, the numbered events of its history that are dealt to this caller:
-- none where there is no such network or no such caller.
abbrev pub AreReceipts : List (List Entry) → List (List Event) → List (List ℕ) → Type 0
AreReceipts callers histories givers =
    (place i : ℕ)
    → receipts_of place (slice_index_or callers i [])
    ≡ dealt (slice_index_or givers place []) (numbered (slice_index_or histories place [])) i

-- there is a network at a place, which has taken as many events as it may
abbrev pub IsFullAt : List ℕ → List (List Event) → ℕ → Type 0
IsFullAt limits histories place =
    (place < length histories) × (length (slice_index_or histories place []) ≡ slice_index_or limits place 0)

-- Where a caller was told that a network is full, it has no later receipt for it, and the network is full.
abbrev pub IsFullLast : List ℕ → List (List Event) → List Entry → Type 0
IsFullLast limits histories entries =
    (k place : ℕ) → slice_get entries k ≡ Some (Refused place refusals.HistoryFull)
    → (receipts_of place (drop k entries) ≡ []) × IsFullAt limits histories place

abbrev pub AreFullLast : List ℕ → List (List Event) → List (List Entry) → Type 0
AreFullLast limits histories callers = (i : ℕ) → IsFullLast limits histories (slice_index_or callers i [])

-- ---- while they are tested

-- what the networks took, and how many each may take, before they end
abbrev pub histories : List BssView → List (List Event)
histories networks = map (λ n. n.history) networks

abbrev pub limits : List BssView → List ℕ
limits networks = map (λ n. n.setting.network.max_events) networks

-- no entry is a receipt for a network past this number of them
abbrev pub AreThere : ℕ → List Entry → Type 0
AreThere networks entries = (place : ℕ) → networks ≤ place → receipts_of place entries ≡ []

-- these entries agree with what is dealt to caller i of each history
abbrev pub AreReceiptsOf : ℕ → List (List Event) → List (List ℕ) → List Entry → Type 0
AreReceiptsOf i histories givers entries =
    (place : ℕ)
    → receipts_of place entries
    ≡ dealt (slice_index_or givers place []) (numbered (slice_index_or histories place [])) i

-- The networks that a caller was told are full are marked. An entry marks its own; and it is no receipt for one that
-- is marked.
pub record MarksFull (networks : List BssView) (entry : Entry) (old new : List Bool) : Type 0 where
  pub stay : (place : ℕ) → slice_index_or old place false ≡ true → slice_index_or new place false ≡ true
  pub last : (place : ℕ) → slice_index_or old place false ≡ true → receipt_for place entry ≡ None
  pub marked :
      (place : ℕ) → entry ≡ Refused place refusals.HistoryFull
      → (slice_index_or new place false ≡ true) × IsFullAt (limits networks) (histories networks) place
