-- The frames of a radio: those of a network that left, those in the queue and those that wait are all that it sent.
use Rattle.std.proofs.Common.{◌≡◌, ℕ, ◌+◌, ◌≤◌, ◌<◌, ltb, List, [], ◌∷◌, ◌++◌, length, take, Option, Some, None, slice_get, map, refl, sym, ap, subst, ◌∙◌, arith, inl, inr}
use Rattle.std.proofs.lemmas.Bool.{cond_both, cases_lt, ltb-true}
use Rattle.std.proofs.lemmas.List.{length-append, length-set, take_more, get_or_past, append_assoc, take-append-drop, take-append-le, get_or-map, length-map}
use Rattle.std.proofs.lemmas.Option.{slice_get_within, get_or_from_slice_get}
use Rattle.network.specs.Network.{alone}
use Rattle.ap_config.specs.Places.{names_network, network_at, setting_at}
use Rattle.bss_core.specs.Radio.{Place, untouched, RadioState, first_state, place_at, air_at, waiting_at, with_place, hand_frame, leave_first, radio_step, after_steps, part_of}
use Rattle.events.specs.Items.{items_of}
use Rattle.network.specs.BssView.{sent_by}
use Rattle.ap_config.specs.declared.config.RadioConfig.{RadioConfig}
use Rattle.events.specs.declared.event.Event.{Event}
use Rattle.events.specs.declared.air_item.AirItem.{AirItem}
use Rattle.bss_core.specs.declared.radio.step.Step.{Step}
use Rattle.bss_core.specs.declared.radio.step.Step.TheVariants.{Take, Hand, Leave}
use Rattle.bss_core.proofs.RadioSteps.{at_each_place, after_steps-follow, events-part}
use Rattle.bss_core.proofs.FrameLaws.{FrameLaws}

-- ---- the frame with a number

pub frame-within : (frames : List (List ℕ)) (number : ℕ) (octets : List ℕ) → slice_get frames number ≡ Some octets → number < length frames
frame-within frames number octets is = slice_get_within frames number octets is

pub take-frame : (frames : List (List ℕ)) (number : ℕ) (octets : List ℕ) → slice_get frames number ≡ Some octets → take (number + 1) frames ≡ take number frames ++ octets ∷ []
take-frame frames number octets is =
    take_more frames number octets (slice_get_within frames number octets is)
    ∙ ap (λ (x : List ℕ). take number frames ++ x ∷ []) (get_or_from_slice_get frames number octets octets is)

-- ---- no frame is lost, doubled or moved

-- a network at this place handed no more than it sent, and what it handed is what left and what is queued
record Tallies (c : RadioConfig) (place : ℕ) (out : List (List ℕ)) (p : Place) : Type 0 where
  sent : p.handed ≤ length (alone (setting_at c place) p.events).air
  all : out ≡ take p.handed (alone (setting_at c place) p.events).air

-- its frames outside the network
abbrev out_of : RadioState → ℕ → List (List ℕ)
out_of s place = items_of place s.left ++ items_of place s.queue

record Accounts (c : RadioConfig) (s : RadioState) : Type 0 where
  size : length s.places ≡ length c.networks
  each : (place : ℕ) → Tallies c place (out_of s place) (place_at s place)

untouched_tallies : (c : RadioConfig) (place : ℕ) → Tallies c place [] untouched
untouched_tallies c place = record { sent = omega arith; all = refl }

-- there is nothing at any place at first
first_place : (c : RadioConfig) (place : ℕ) → place_at (first_state c) place ≡ untouched
first_place c place =
    elim (cases_lt place (length c.networks)) [
      | inl within ↦ get_or-map (λ _. untouched) c.networks place (network_at c place) untouched within
      | inr past ↦
          get_or_past (map (λ _. untouched) c.networks) place untouched (omega (arith, length-map c.networks (λ _. untouched)))
    ]

accounts_first : (c : RadioConfig) → Accounts c (first_state c)
accounts_first c = record {
  size = length-map c.networks (λ _. untouched);
  each = λ place. subst (Tallies c place []) (sym (first_place c place)) (untouched_tallies c place);
}

-- an event leaves what was handed
tallies_event : FrameLaws → (c : RadioConfig) (place : ℕ) (out : List (List ℕ)) (p : Place) (event : Event) → Tallies c place out p → Tallies c place out (record p { events = p.events ++ event ∷ [] })
tallies_event laws c place out p event h =
    let s = setting_at c place in
    let old : List (List ℕ) = (alone s p.events).air in
    let more : List (List ℕ) = sent_by s p.events event in
    let now : (alone s (p.events ++ event ∷ [])).air ≡ old ++ more = laws.sent s p.events event in
    let count = ap length now ∙ length-append old more in
    record {
      sent = omega (arith, h.sent);
      all = h.all ∙ sym (take-append-le p.handed old more h.sent) ∙ ap (take p.handed) (sym now);
    }

-- the next frame is handed
tallies_frame : (c : RadioConfig) (place : ℕ) (out : List (List ℕ)) (p : Place) (octets : List ℕ) → Tallies c place out p → slice_get (alone (setting_at c place) p.events).air p.handed ≡ Some octets → Tallies c place (out ++ octets ∷ []) (record p { handed = p.handed + 1 })
tallies_frame c place out p octets h is =
    let frames : List (List ℕ) = (alone (setting_at c place) p.events).air in
    let within = frame-within frames p.handed octets is in
    record {
      sent = omega arith;
      all = ap (λ (fs : List (List ℕ)). fs ++ octets ∷ []) h.all ∙ sym (take-frame frames p.handed octets is);
    }

accounts_event : FrameLaws → (c : RadioConfig) (s : RadioState) (place : ℕ) (event : Event) → Accounts c s → place < length c.networks → Accounts c (with_place s place (record (place_at s place) { events = (place_at s place).events ++ event ∷ [] }))
accounts_event laws c s place event h within = record {
  size = length-set s.places place _ ∙ h.size;
  each =
      at_each_place s place _ (λ q p. Tallies c q (out_of s q) p) (omega (arith, h.size)) (tallies_event laws c place _ (place_at s place) event (h.each place)) (λ q ne. h.each q);
}

accounts_frame : FrameLaws → (c : RadioConfig) (s : RadioState) (place : ℕ) (o : Option (List ℕ)) → Accounts c s → place < length c.networks → slice_get (air_at c s place) (place_at s place).handed ≡ o → Accounts c (hand_frame c s place o)
accounts_frame laws c s place None h within is = h
accounts_frame laws c s place (Some octets) h within is = cond_both (ltb (length s.queue) c.queue) _ s (Accounts c) (λ _. moved) (λ _. h)
  where
    next : RadioState
    next = record (with_place s place (record (place_at s place) { handed = (place_at s place).handed + 1 })) { queue = s.queue ++ (record { place = place; octets = octets }) ∷ [] }

    here : out_of s place ++ octets ∷ [] ≡ out_of next place
    here =
        append_assoc (items_of place s.left) (items_of place s.queue) (octets ∷ [])
        ∙ ap (λ (fs : List (List ℕ)). items_of place s.left ++ fs) (sym (laws.same place s.queue octets))

    others : (q : ℕ) → (q ≡ place → ⊥) → out_of s q ≡ out_of next q
    others q ne =
        ap (λ (fs : List (List ℕ)). items_of q s.left ++ fs) (sym (laws.other q place s.queue octets ne))

    moved : Accounts c next
    moved = record {
      size = length-set s.places place _ ∙ h.size;
      each =
          at_each_place s place _ (λ q p. Tallies c q (out_of next q) p) (omega (arith, h.size)) (subst (λ fs. Tallies c place fs (record (place_at s place) { handed = (place_at s place).handed + 1 })) here (tallies_frame c place _ (place_at s place) octets (h.each place) is)) (λ q ne. subst (λ fs. Tallies c q fs (place_at s q)) (others q ne) (h.each q));
    }

accounts_left : FrameLaws → (c : RadioConfig) (s : RadioState) (items : List AirItem) → Accounts c s → s.queue ≡ items → Accounts c (leave_first s items)
accounts_left laws c s [] h is = h
accounts_left laws c s (item ∷ items) h is = record {
  size = h.size;
  each = λ place. subst (λ fs. Tallies c place fs (place_at s place)) (same place) (h.each place);
}
  where
    same : (place : ℕ) → out_of s place ≡ items_of place (s.left ++ item ∷ []) ++ items_of place items
    same place =
        let left : List (List ℕ) = items_of place s.left in
        let one : List (List ℕ) = items_of place (item ∷ []) in
        let rest : List (List ℕ) = items_of place items in
        ap (λ (xs : List AirItem). left ++ items_of place xs) is
        ∙ ap (λ (fs : List (List ℕ)). left ++ fs) (laws.append place (item ∷ []) items)
        ∙ sym (append_assoc left one rest)
        ∙ ap (λ (fs : List (List ℕ)). fs ++ rest) (sym (laws.append place s.left (item ∷ [])))

accounts_step : FrameLaws → (c : RadioConfig) (s : RadioState) (step : Step) → Accounts c s → Accounts c (radio_step c s step)
unfolding radio_step
accounts_step laws c s (Take place event) h =
    cond_both (names_network c place) _ s (Accounts c)
    (λ named. cond_both (ltb (length (place_at s place).events) (network_at c place).max_events) _ s (Accounts c) (λ _. accounts_event laws c s place event h (ltb-true place (length c.networks) named)) (λ _. h))
    (λ _. h)
accounts_step laws c s (Hand place) h =
    cond_both (names_network c place) _ s (Accounts c)
    (λ named. accounts_frame laws c s place (slice_get (air_at c s place) (place_at s place).handed) h (ltb-true place (length c.networks) named) refl)
    (λ _. h)
accounts_step laws c s Leave h = accounts_left laws c s s.queue h refl

accounts : FrameLaws → (c : RadioConfig) (steps : List Step) → Accounts c (after_steps c steps)
accounts laws c steps = after_steps-follow c (λ _. Accounts c) (accounts_first c) (λ _. accounts_step laws c) steps

-- ---- what comes of it

-- a network handed no more frames than it sent
pub handed-le : FrameLaws → (c : RadioConfig) (steps : List Step) (place : ℕ) → (place_at (after_steps c steps) place).handed ≤ length (air_at c (after_steps c steps) place)
handed-le laws c steps place = ((accounts laws c steps).each place).sent

-- what left, what is queued and what waits, of one network
pub left-queue-waiting : FrameLaws → (c : RadioConfig) (steps : List Step) (place : ℕ) → items_of place (after_steps c steps).left ++ items_of place (after_steps c steps).queue ++ waiting_at c (after_steps c steps) place ≡ air_at c (after_steps c steps) place
left-queue-waiting laws c steps place =
    let s = after_steps c steps in
    ap (λ (fs : List (List ℕ)). fs ++ waiting_at c s place) (((accounts laws c steps).each place).all)
    ∙ take-append-drop (place_at s place).handed (air_at c s place)

-- all frames of a network are those that it sends alone, for its part of the steps
pub frames-alone : FrameLaws → (c : RadioConfig) (steps : List Step) (place : ℕ) → place < length c.networks → items_of place (after_steps c steps).left ++ items_of place (after_steps c steps).queue ++ waiting_at c (after_steps c steps) place ≡ (alone (setting_at c place) (part_of c place steps)).air
frames-alone laws c steps place within =
    left-queue-waiting laws c steps place
    ∙ ap (λ (es : List Event). (alone (setting_at c place) es).air) (events-part c steps place within)
