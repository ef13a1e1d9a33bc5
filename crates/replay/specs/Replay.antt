-- What a trace makes of the networks of a configuration: each network takes what it hears, alone.
use Rattle.std.specs.Prelude.{ℕ, ◌<◌, ◌≤◌, ◌≡◌, ◌≢◌, ◌++◌, nat_lt, Bool, true, false, List, [], ◌∷◌, length, slice_set}
use Rattle.std.specs.Prelude.{Option, None, if◌then◌else◌}
use Rattle.ap_config.specs.Configuration.{fault_of}
use Rattle.network.specs.Network.{alone}
use Rattle.ap_config.specs.Places.{network_at, setting_at}
use Rattle.network.specs.Section.{sections_of}
use Rattle.bss_core.specs.RadioView.{RadioView, view_at}
use Rattle.ap_config.specs.declared.config.RadioConfig.{RadioConfig}
use Rattle.events.specs.declared.event.Event.{Event}
use Rattle.events.specs.declared.section.Section.{Section}
use Rattle.events.specs.declared.line.Line.{Line}
use Rattle.events.specs.Lines.{event_for, own_events, taken_of}
use Rattle.replay.specs.Frames.{FrameLists, sent_at, sends_more}
use Rattle.replay.specs.declared.model.drained_radio.DrainedRadio.{DrainedRadio}

-- ---- a radio between two lines

-- these frames wait at a place
abbrev pub with_waiting : RadioView → ℕ → List (List ℕ) → RadioView
with_waiting r place frames = record r {
  networks = slice_set r.networks place (record (view_at r place) { waiting = frames });
}

-- nothing waits at a place
abbrev pub emptied : ℕ → RadioView → RadioView
emptied place r = with_waiting r place []

-- the first frame that waits at a place left
pub record SendsOne (place : ℕ) (old new : DrainedRadio) : Type 0 where
  pub frame : List ℕ
  pub rest : List (List ℕ)
  pub waiting : (view_at old.radio place).waiting ≡ frame ∷ rest
  pub radio : new.radio ≡ with_waiting old.radio place rest
  pub sent : new.sent ≡ sends_more old.sent place (frame ∷ [])

-- none waits there, and nothing changed
pub record SendsNone (place : ℕ) (old new : DrainedRadio) : Type 0 where
  pub waiting : (view_at old.radio place).waiting ≡ []
  pub radio : new.radio ≡ old.radio
  pub sent : new.sent ≡ old.sent

-- the first frame that waits at a place left, if there was one
abbrev pub SendsFirst : Bool → ℕ → DrainedRadio → DrainedRadio → Type 0
SendsFirst true = SendsOne
SendsFirst false = SendsNone

-- Nothing waits and nothing is queued, and of each network all that it ever sent has left.
pub record IsDrained (r : RadioView) (sent : FrameLists) : Type 0 where
  pub sound : fault_of r.config ≡ None
  pub networks : length r.networks ≡ length r.config.networks
  pub whole : length sent ≡ length r.config.networks
  pub queue : r.queue ≡ []
  pub waiting : (place : ℕ) → place < length r.config.networks → (view_at r place).waiting ≡ []
  pub air :
      (place : ℕ)
      → place < length r.config.networks
      → sent_at sent place ≡ (alone (setting_at r.config place) (view_at r place).history).air

-- the network at a place took an event, if its history may have one more, and no other network did
pub record TakesAt (place : ℕ) (event : Event) (old new : RadioView) : Type 0 where
  pub config : new.config ≡ old.config
  pub there : (view_at new place).history
      ≡ (view_at old place).history
      ++ (if nat_lt (length (view_at old place).history) (network_at old.config place).max_events
      then event ∷ []
      else [])
  pub others : (other : ℕ) → other ≢ place → (view_at new other).history ≡ (view_at old other).history

-- the network at a place took what it hears of a line, and no other network took anything
pub record TakesOf (place : ℕ) (line : Line) (old new : RadioView) : Type 0 where
  pub config : new.config ≡ old.config
  pub there : (view_at new place).history
      ≡ (view_at old place).history ++ taken_of place (network_at old.config place) (view_at old place).history line
  pub others : (other : ℕ) → other ≢ place → (view_at new other).history ≡ (view_at old other).history

-- each network took what it hears of a line
pub record TakesLine (line : Line) (old new : RadioView) : Type 0 where
  pub config : new.config ≡ old.config
  pub each :
      (place : ℕ)
      → place < length old.config.networks
      → (view_at new place).history
      ≡ (view_at old place).history ++ taken_of place (network_at old.config place) (view_at old place).history line

-- the event that a line is to the network at a place
abbrev pub event_at : RadioView → ℕ → Line → Option Event
event_at r place line = event_for place (network_at r.config place).bssid line

-- the section of each network with what it took and the frames that left
abbrev pub sections_at : RadioView → List Section
sections_at r = sections_of r.config (λ place. (view_at r place).history)

-- ---- a radio after some lines

-- the radio of a configuration has taken these lines: each network took its own events of them
pub record HasTaken (c : RadioConfig) (lines : List Line) (r : RadioView) : Type 0 where
  pub config : r.config ≡ c
  pub history :
      (place : ℕ) → place < length c.networks → (view_at r place).history ≡ own_events place (network_at c place) lines
