-- What networks make of a line (profile).
use Rattle.std.specs.Prelude.{◌≡◌, ℕ, ◌+◌, List, [], ◌∷◌, Option, Some, None}
use Rattle.events.specs.Lines.{event_for}
use Rattle.events.specs.declared.event.Event.{Event}
use Rattle.events.specs.declared.line.Line.{Line}

-- something before a call, and what it is after it
pub record Change (T : Type 0) : Type 0 where
  pub old : T
  pub new : T

-- it was the first, and is the second
abbrev pub change : {T : Type 0} → T → T → Change T
change old new = record { old = old; new = new }

-- ---- one network

-- A network and the output after an event, if it is one to that network; else both are as they were.
abbrev pub TakesIf : {N O : Type 0} → (Event → Change N → Change O → Type 0) → Option Event → Change N → Change O → Type 0
TakesIf delivers None network out = (network.new ≡ network.old) × (out.new ≡ out.old)
TakesIf delivers (Some e) network out = delivers e network out

-- ---- all networks

-- A line for networks, of which the first stands at a place; with the address of each network, and what an event makes
-- of a network and of the output.
pub record Dispatch (N O : Type 0) : Type 1 where
  pub bssid : N → List ℕ
  pub delivers : Event → Change N → Change O → Type 0
  pub line : Line
  pub place : ℕ

-- the line for the networks from this place on
abbrev pub dispatch : {N O : Type 0} → (N → List ℕ) → (Event → Change N → Change O → Type 0) → Line → ℕ → Dispatch N O
dispatch bssid delivers line place =
    record { bssid = bssid; delivers = delivers; line = line; place = place }

-- the same line for the networks behind the first
abbrev pub behind : {N O : Type 0} → Dispatch N O → Dispatch N O
behind d = record d { place = d.place + 1 }

-- The networks and the output after a line: each network takes the event that the line is to it, in order of place,
-- whatever the others are.
abbrev pub Takes : {N O : Type 0} → Dispatch N O → (old new : List N) → Change O → Type 0
Takes d [] next out = (next ≡ []) × (out.new ≡ out.old)
Takes d (n ∷ ns) [] out = ⊥
Takes {N} {O} d (n ∷ ns) (m ∷ ms) out =
    (between : O) × TakesIf d.delivers (event_for d.place (d.bssid n) d.line) (change n m) (change out.old between)
    × Takes (behind d) ns ms (change between out.new)
