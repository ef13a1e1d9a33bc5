-- What a play keeps of the events that its networks took, and of what left (profile).
use Rattle.std.specs.Prelude.{ℕ, ◌≡◌, ◌<◌, ◌≤◌, ◌+◌, ◌^◌, ◌==◌, All, Bool, true, List, [], filter, length, map, take, Some, slice_get, slice_index_or}
use Rattle.networks.specs.WithFrames.{after_events}
use Rattle.networks.specs.declared.network_with_frames.NetworkWithFrames.{NetworkWithFrames}
use Rattle.ap_config.specs.Places.{network_at, setting_at}
use Rattle.events.specs.Items.{items_of}
use Rattle.events.specs.Lines.{event_of_line, heard}
use Rattle.events.specs.Lists.{IsPrefix}
use Rattle.events.specs.declared.air_item.AirItem.{AirItem}
use Rattle.events.specs.declared.event.Event.{Event}
use Rattle.events.specs.declared.line.Line.{Line}
use Rattle.events.specs.declared.section.Section.{Section}
use Rattle.network.specs.Network.{counts_of, table_of}
use Rattle.network.specs.NetworkView.{NetworkState}
use Rattle.play.specs.Played.{heard_from}
use Rattle.play.specs.Lines.{line_at, lines_of}
use Rattle.play.specs.Plays.{PlayView}
use Rattle.play.specs.declared.kept.Given.{Given}
use Rattle.play.specs.declared.kept.PlayedNetwork.{PlayedNetwork}

-- ---- events by who gave them

-- the event that a line of a source is
abbrev pub event_given : List (List Line) → Given → Event
event_given sources given = event_of_line (line_at (lines_of sources given.source) given.line)

-- of several that were given, those that source i gave
abbrev pub given_by : ℕ → List Given → List Given
given_by i given = filter (λ g. g.source == i) given

-- The events that a source gave a network are the first of those that the network hears of the source, in their order,
-- and all of them where the network took fewer than it may.
pub record IsTaken (limit count : ℕ) (given heard : List Event) : Type 0 where
  pub first : IsPrefix given heard
  pub whole : count < limit → given ≡ heard

-- what the network at a place hears of the first lines of source i, of which so many were given as stand at its place
abbrev pub heard_up_to : PlayView → ℕ → List ℕ → ℕ → List Event
heard_up_to play place next i =
    heard place (network_at play.config place).bssid (take (slice_index_or next i 0) (lines_of play.sources i))

-- Each of the events of the network at a place was given by one of the sources: of what it hears of each source it took
-- the first.
pub record IsGivenAt (play : PlayView) (place : ℕ) (hears : ℕ → List Event) (by : List Given) : Type 0 where
  pub bounded : length by ≤ (network_at play.config place).max_events
  pub known : All (λ g. g.source < length play.sources) by
  pub each : (i : ℕ) → IsTaken (network_at play.config place).max_events (length by)
      (map (event_given play.sources) (given_by i by)) (hears i)

-- ---- what is kept

-- A network with its frames is that at a place, alone with events that were given so. Where the play keeps it, who gave
-- them is told.
pub record IsKeptAt (play : PlayView) (place : ℕ) (hears : ℕ → List Event) (log : NetworkWithFrames) (given : List Given)
    : Type 0 where
  pub by : List Given
  pub alone : log ≡ after_events (setting_at play.config place) (map (event_given play.sources) by)
  pub given_at : IsGivenAt play place hears by
  pub told : play.keeps ≡ true → given ≡ by

-- what left of a number of networks: for each the frames, and all of them in order where the play keeps it
pub record IsLeft (networks : ℕ) (keeps : Bool) (items : List AirItem) (logs : List (List (List ℕ)))
    (kept : List AirItem) : Type 0 where
  pub each : (place : ℕ) → place < length logs → slice_index_or logs place [] ≡ items_of place items
  pub told : keeps ≡ true → kept ≡ items
  pub placed : All (λ item. item.place < networks) items

-- ---- what a play ends with

-- a network with the frames of it that left
abbrev pub log_with : List (List ℕ) → PlayedNetwork → NetworkWithFrames
log_with air n = record { network = n.network; air = air; wire = n.wire }

-- the network at a place is kept so with these frames, once all lines were given
abbrev pub IsWholeAt : PlayView → ℕ → List (List ℕ) → PlayedNetwork → Type 0
IsWholeAt play place air n =
    IsKeptAt play place (heard_from play.config place play.sources) (log_with air n) n.given.items

-- all networks, in order of place, and what left
pub record IsEnd (play : PlayView) (networks : List PlayedNetwork) (airs : List (List (List ℕ))) (kept : List AirItem)
    : Type 0 where
  pub count : length networks ≡ length play.config.networks
  pub logs : length airs ≡ length play.config.networks
  pub each :
      (place : ℕ) (n : PlayedNetwork) → slice_get networks place ≡ Some n
      → IsWholeAt play place (slice_index_or airs place []) n
  pub left : (items : List AirItem) × IsLeft (length play.config.networks) play.keeps items airs kept

-- ---- sections

-- what of a network is counted, counts by 32 bits can say
pub record IsCounted (n : NetworkState) : Type 0 where
  pub events : n.events < 2 ^ 32
  pub unread : n.network.unread < 2 ^ 32
  pub lost : n.network.lost < 2 ^ 32

-- the section of a network with the frames that it sent, of these events
abbrev pub section_told : NetworkWithFrames → List Event → Section
section_told log events = record {
  config = log.network.setting.network;
  events = events;
  table = table_of log.network.network;
  counts = counts_of log.network.events log.network.network;
  air = log.air;
  wire = log.wire;
}
