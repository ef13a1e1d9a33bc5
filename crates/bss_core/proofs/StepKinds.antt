-- What a step makes of a state, by its kind and by what stands there.
use Rattle.std.proofs.Common.{◌≡◌, ℕ, ◌+◌, ◌≤◌, ◌<◌, List, [], ◌∷◌, ◌++◌, length, slice_get, Some, None, refl}
use Rattle.std.proofs.lemmas.Bool.{lt-ltb, le-ltb}
use Rattle.ap_config.specs.Places.{network_at}
use Rattle.bss_core.specs.Radio.{RadioState, place_at, air_at, with_place, radio_step}
use Rattle.ap_config.specs.declared.config.RadioConfig.{RadioConfig}
use Rattle.events.specs.declared.event.Event.{Event}
use Rattle.events.specs.declared.air_item.AirItem.{AirItem}
use Rattle.bss_core.specs.declared.radio.step.Step.TheVariants.{Take, Hand, Leave}

-- ---- an event

pub take-room : (c : RadioConfig) (s : RadioState) (place : ℕ) (event : Event) → place < length c.networks → length (place_at s place).events < (network_at c place).max_events → radio_step c s (Take place event) ≡ with_place s place (record (place_at s place) { events = (place_at s place).events ++ event ∷ [] })
unfolding radio_step
take-room c s place event within room = rw (lt-ltb _ _ within, lt-ltb _ _ room) refl

pub take-full : (c : RadioConfig) (s : RadioState) (place : ℕ) (event : Event) → place < length c.networks → (network_at c place).max_events ≤ length (place_at s place).events → radio_step c s (Take place event) ≡ s
unfolding radio_step
take-full c s place event within full = rw (lt-ltb _ _ within, le-ltb _ _ full) refl

pub take-nowhere : (c : RadioConfig) (s : RadioState) (place : ℕ) (event : Event) → length c.networks ≤ place → radio_step c s (Take place event) ≡ s
unfolding radio_step
take-nowhere c s place event past = rw (le-ltb _ _ past) refl

-- ---- a frame for the queue

pub hand-frame : (c : RadioConfig) (s : RadioState) (place : ℕ) (octets : List ℕ) → place < length c.networks → slice_get (air_at c s place) (place_at s place).handed ≡ Some octets → length s.queue < c.queue → radio_step c s (Hand place) ≡ record (with_place s place (record (place_at s place) { handed = (place_at s place).handed + 1 })) { queue = s.queue ++ (record { place = place; octets = octets }) ∷ [] }
unfolding radio_step
hand-frame c s place octets within is room = rw (lt-ltb _ _ within, is, lt-ltb _ _ room) refl

pub hand-full : (c : RadioConfig) (s : RadioState) (place : ℕ) (octets : List ℕ) → place < length c.networks → slice_get (air_at c s place) (place_at s place).handed ≡ Some octets → c.queue ≤ length s.queue → radio_step c s (Hand place) ≡ s
unfolding radio_step
hand-full c s place octets within is full = rw (lt-ltb _ _ within, is, le-ltb _ _ full) refl

pub hand-nothing : (c : RadioConfig) (s : RadioState) (place : ℕ) → place < length c.networks → slice_get (air_at c s place) (place_at s place).handed ≡ None → radio_step c s (Hand place) ≡ s
unfolding radio_step
hand-nothing c s place within is = rw (lt-ltb _ _ within, is) refl

pub hand-nowhere : (c : RadioConfig) (s : RadioState) (place : ℕ) → length c.networks ≤ place → radio_step c s (Hand place) ≡ s
unfolding radio_step
hand-nowhere c s place past = rw (le-ltb _ _ past) refl

-- ---- a frame that leaves

pub leave-first : (c : RadioConfig) (s : RadioState) (item : AirItem) (items : List AirItem) → s.queue ≡ item ∷ items → radio_step c s Leave ≡ record s { queue = items; left = s.left ++ item ∷ [] }
unfolding radio_step
leave-first c s item items is = rw is refl

pub leave-nothing : (c : RadioConfig) (s : RadioState) → s.queue ≡ [] → radio_step c s Leave ≡ s
unfolding radio_step
leave-nothing c s is = rw is refl
