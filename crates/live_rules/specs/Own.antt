-- What of all that is said and answered is one network's own.
use Rattle.std.specs.Prelude.{ℕ, ◌<◌, ◌≤◌, ◌≡◌, List, [], ◌∷◌, ◌++◌, length, map, flat_map, take, slice_get, Ok, Option}
use Rattle.std.specs.Prelude.{Some, None, option_to_list}
use Rattle.std.specs.List.{slice_index_or, AllByRecursion}
use Rattle.std.specs.Str.Lines.{lines}
use Rattle.events.specs.Lines.{event_for, heard}
use Rattle.ap_config.specs.Configuration.{fault_of}
use Rattle.network.specs.Network.{alone, table_of, counts_of}
use Rattle.ap_config.specs.declared.setting.Setting.{Setting}
use Rattle.network.specs.NetworkView.{NetworkState, unsent}
use Rattle.ap_config.specs.Places.{network_at, setting_at}
use Rattle.ap_config.specs.declared.config.RadioConfig.{RadioConfig}
use Rattle.events.specs.declared.event.Event.{Event}
use Rattle.events.specs.declared.line.Line.{Line}
use Rattle.events.specs.declared.section.Section.{Section}
use Rattle.trace.specs.TraceText.{lines_of}
use Rattle.live_rules.specs.TextLines.{max_line}
use Rattle.live_rules.specs.Moments.{Moment, first_moment, Reply, Sends, taken_if}
use Rattle.live_rules.specs.Asked.{Asked, Says}
use Rattle.live_rules.specs.Answers.{Answer, Replies, Tables, Answers, AreUnrefused}

-- ---- its events

-- the event that this is to it
abbrev pub event_in : ℕ → List ℕ → Asked → Option Event
event_in place bssid (Says (Ok (Some line))) = event_for place bssid line
event_in place bssid asked = None

-- its reply in an answer
abbrev pub reply_in : ℕ → Answer → Option Reply
reply_in place (Replies replies) = slice_index_or replies place None
reply_in place answer = None

-- one after the other, the events that it took: those that were said to it, less those that it refused
abbrev pub events_taken : ℕ → List ℕ → List Asked → List Answer → List Event
events_taken place bssid (asked ∷ said) (answer ∷ answers) =
    option_to_list (taken_if (event_in place bssid asked) (reply_in place answer)) ++ events_taken place bssid said answers
events_taken place bssid said answers = []

-- the events of the network at a place of a configuration
abbrev pub events_at : RadioConfig → ℕ → List Asked → List Answer → List Event
events_at c place said answers = events_taken place (network_at c place).bssid said answers

-- ---- its frames

-- the frames on the air in a reply
abbrev pub air_in : Option Reply → List (List ℕ)
air_in (Some (Sends air wire)) = air
air_in reply = []

-- the frames on the wire in a reply
abbrev pub wire_in : Option Reply → List (List ℕ)
wire_in (Some (Sends air wire)) = wire
wire_in reply = []

-- the frames that it sent on the air
abbrev pub air_at : ℕ → List Answer → List (List ℕ)
air_at place answers = flat_map (λ answer. air_in (reply_in place answer)) answers

-- the frames that it sent on the wire
abbrev pub wire_at : ℕ → List Answer → List (List ℕ)
wire_at place answers = flat_map (λ answer. wire_in (reply_in place answer)) answers

-- ---- the network alone

-- a network that took these events and no other, without the frames that it sent
abbrev pub alone_after : Setting → List Event → NetworkState
alone_after s es = record { setting = s; events = length es; network = unsent (alone s es) }

-- all that was said and answered to the networks of a configuration, from the first moment on
pub record Course : Type 0 where
  pub config : RadioConfig
  pub said : List Asked
  pub answers : List Answer

-- this was said to the networks of a configuration, and this was answered
abbrev pub course : RadioConfig → List Asked → List Answer → Course
course config said answers = record { config = config; said = said; answers = answers }

-- the network at a place of its configuration, alone after its own events in it
abbrev pub alone_in : Course → ℕ → NetworkState
alone_in x place = alone_after (setting_at x.config place) (events_at x.config place x.said x.answers)

-- its first answers alone, and what was said to them
abbrev pub first_of : ℕ → Course → Course
first_of k x = course x.config (take k x.said) (take k x.answers)

-- What was written of the network at a place, its table at each `I` and at the last moment are what it does alone with
-- its own events so far.
pub record IsAlone (x : Course) (place : ℕ) (next : Moment) : Type 0 where
  pub air : air_at place x.answers ≡ (alone (setting_at x.config place) (events_at x.config place x.said x.answers)).air
  pub wire : wire_at place x.answers
      ≡ (alone (setting_at x.config place) (events_at x.config place x.said x.answers)).wire
  pub last : slice_get next.networks place ≡ Some (alone_in x place)
  pub asked :
      (k : ℕ) (networks : List NetworkState)
      → slice_get x.answers k ≡ Some (Tables networks)
      → slice_get networks place ≡ Some (alone_in (first_of k x) place)

-- The networks at place p of one configuration and at place q of another have the same configuration, channel, interval
-- and events, whatever else is said.
pub record AreAlike (x : Course) (p : ℕ) (y : Course) (q : ℕ) : Type 0 where
  pub here : p < length x.config.networks
  pub there : q < length y.config.networks
  pub channel : x.config.channel ≡ y.config.channel
  pub interval : x.config.interval ≡ y.config.interval
  pub network : network_at x.config p ≡ network_at y.config q
  pub events : events_at x.config p x.said x.answers ≡ events_at y.config q y.said y.answers

-- ---- as in a report

-- what was written of the network at a place, and what is known of it in the end, is what a section says of it
pub record IsShown (section : Section) (place : ℕ) (answers : List Answer) (next : Moment) : Type 0 where
  pub air : air_at place answers ≡ section.air
  pub wire : wire_at place answers ≡ section.wire
  pub network : NetworkState
  pub there : slice_get next.networks place ≡ Some network
  pub events : network.events ≡ length section.events
  pub table : table_of network.network ≡ section.table
  pub counts : counts_of network.events network.network ≡ section.counts

-- what is said as a line of a trace says it, nothing where it is skipped; a fault and the question for tables say none
abbrev pub line_said : Asked → Option (Option Line)
line_said (Says (Ok said)) = Some said
line_said asked = None

-- Nothing but these lines is said, however it came: no fault, and no question for tables.
pub record AreLines (said : List Asked) (lines : List Line) : Type 0 where
  pub each : List (Option Line)
  pub say : map line_said said ≡ map Some each
  pub all : lines ≡ flat_map option_to_list each

-- a text is a trace that says these lines to the networks of a configuration, and no line of it is too long
pub record IsTrace (config : RadioConfig) (text : List ℕ) (said : List Line) : Type 0 where
  pub read : lines_of config text ≡ Ok said
  pub short : AllByRecursion (λ line. length line ≤ max_line) (lines text)

-- Nothing but these lines was said, of which the network at a place hears at most as many events as a history may have,
-- and nothing was refused for memory.
pub record IsLikeTrace (x : Course) (lines : List Line) (place : ℕ) (next : Moment) : Type 0 where
  pub sound : fault_of x.config ≡ None
  pub said : AreLines x.said lines
  pub there : place < length x.config.networks
  pub events : length (heard place (network_at x.config place).bssid lines) ≤ (network_at x.config place).max_events
  pub answered : Answers (first_moment x.config) x.said x.answers next
  pub unrefused : AreUnrefused x.answers
