-- A radio and its networks (profile): what a list of steps makes of them, in whatever order the steps come. What a
-- network does is said by `alone`, of its own setting and its own events, and by nothing else.
use Rattle.std.specs.Prelude.{ℕ, ◌+◌, ◌==◌, nat_lt, List, [], ◌∷◌, ◌++◌, length, take, drop, map, slice_get, slice_set}
use Rattle.std.specs.Prelude.{Option, Some, None, if◌then◌else◌}
use Rattle.std.specs.List.{slice_index_or, filter_map}
use Rattle.network.specs.Network.{alone}
use Rattle.ap_config.specs.declared.config.RadioConfig.{RadioConfig}
use Rattle.events.specs.declared.event.Event.{Event}
use Rattle.events.specs.declared.section.Section.{Section}
use Rattle.events.specs.declared.air_item.AirItem.{AirItem}
use Rattle.bss_core.specs.declared.radio.step.Step.{Step}
use Rattle.bss_core.specs.declared.radio.step.Step.TheVariants.{Take, Hand, Leave}
use Rattle.ap_config.specs.Places.{names_network, network_at, setting_at}
use Rattle.network.specs.Section.{sections_of}

-- ---- states

-- for one network, the events that it took, and how many of its frames were handed to the air queue
pub record Place : Type 0 where
  pub events : List Event
  pub handed : ℕ

abbrev pub untouched : Place
untouched = record { events = []; handed = 0 }

-- each network by its place, the air queue, and the frames that left
pub record RadioState : Type 0 where
  pub places : List Place
  pub queue : List AirItem
  pub left : List AirItem

abbrev pub first_state : RadioConfig → RadioState
first_state c = record { places = map (λ _. untouched) c.networks; queue = []; left = [] }

abbrev pub place_at : RadioState → ℕ → Place
place_at s place = slice_index_or s.places place untouched

-- every frame that the network ever sent on the air
abbrev pub air_at : RadioConfig → RadioState → ℕ → List (List ℕ)
air_at c s place = (alone (setting_at c place) (place_at s place).events).air

-- those that were not handed yet
abbrev pub waiting_at : RadioConfig → RadioState → ℕ → List (List ℕ)
waiting_at c s place = drop (place_at s place).handed (air_at c s place)

-- ---- steps

abbrev pub with_place : RadioState → ℕ → Place → RadioState
with_place s place p = record s { places = slice_set s.places place p }

-- an event is one of the network's, if it may take one more
abbrev pub take_event : RadioConfig → RadioState → ℕ → Event → RadioState
take_event c s place event =
    let p = place_at s place in
    if nat_lt (length p.events) (network_at c place).max_events
    then with_place s place (record p { events = p.events ++ event ∷ [] })
    else s

-- the network's first waiting frame goes to the end of the queue, if there is one and the queue has room
abbrev pub hand_frame : RadioConfig → RadioState → ℕ → Option (List ℕ) → RadioState
hand_frame c s place None = s
hand_frame c s place (Some octets) =
    let p = place_at s place in
    if nat_lt (length s.queue) c.queue
    then record (with_place s place (record p { handed = p.handed + 1 })) {
      queue = s.queue ++ (record { place = place; octets = octets }) ∷ [];
    }
    else s

-- the first frame of the queue leaves, if there is one
abbrev pub leave_first : RadioState → List AirItem → RadioState
leave_first s [] = s
leave_first s (item ∷ items) = record s { queue = items; left = s.left ++ item ∷ [] }

-- the state after a step; one that names no network changes nothing
unfoldable pub radio_step : RadioConfig → RadioState → Step → RadioState
radio_step c s (Take place event) = if names_network c place then take_event c s place event else s
radio_step c s (Hand place) =
    if names_network c place
    then hand_frame c s place (slice_get (air_at c s place) (place_at s place).handed)
    else s
radio_step c s Leave = leave_first s s.queue

abbrev pub steps_from : RadioConfig → RadioState → List Step → RadioState
steps_from c s [] = s
steps_from c s (step ∷ steps) = steps_from c (radio_step c s step) steps

-- the state after steps, the first of them first
unfoldable pub after_steps : RadioConfig → List Step → RadioState
after_steps c steps = steps_from c (first_state c) steps

-- ---- what belongs to one network

-- the event of a step in which the network at this place is to take one
abbrev pub event_for : ℕ → Step → Option Event
event_for place (Take other event) = if other == place then Some event else None
event_for place (Hand other) = None
event_for place Leave = None

-- its own events among the steps: the first `max_events` of those that it is to take
abbrev pub part_of : RadioConfig → ℕ → List Step → List Event
part_of c place steps = take (network_at c place).max_events (filter_map (event_for place) steps)

-- with its own events among the steps
abbrev pub sections_after : RadioConfig → List Step → List Section
sections_after c steps = sections_of c (λ place. part_of c place steps)
