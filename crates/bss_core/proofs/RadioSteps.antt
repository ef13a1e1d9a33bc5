-- A radio step by step: what one step more makes of its state and of the part of each network.
use Rattle.std.proofs.Common.{◌≡◌, ℕ, ◌+◌, ◌≤◌, ◌<◌, ltb, List, [], ◌∷◌, ◌++◌, length, take, Option, Some, None, refl, sym, ap, subst, ◌∙◌, arith, inl, inr}
use Rattle.std.specs.List.{cons_option, filter_map}
use Rattle.std.proofs.lemmas.Bool.{cond_both, ltb-true, ltb-false, eq-eqb, ne_eqb, cases_eq}
use Rattle.std.proofs.lemmas.List.{length-append, length-map, length-set, length-take, get_or-map, get_or-set_same, get_or-set_other, append-nil, append_assoc, take_all, take-append-le}
use Rattle.std.proofs.lemmas.List.Elements.{filter_map-append}
use Rattle.ap_config.specs.Places.{names_network, network_at}
use Rattle.bss_core.specs.Radio.{Place, untouched, RadioState, first_state, place_at, with_place, hand_frame, leave_first, radio_step, steps_from, after_steps, event_for, part_of}
use Rattle.ap_config.specs.declared.config.RadioConfig.{RadioConfig}
use Rattle.events.specs.declared.event.Event.{Event}
use Rattle.events.specs.declared.air_item.AirItem.{AirItem}
use Rattle.bss_core.specs.declared.radio.step.Step.{Step}
use Rattle.bss_core.specs.declared.radio.step.Step.TheVariants.{Take, Hand, Leave}

-- ---- one step more

pub after_steps-none : (c : RadioConfig) → after_steps c [] ≡ first_state c
unfolding after_steps
after_steps-none c = refl

steps_from-push : (c : RadioConfig) (s : RadioState) (steps : List Step) (step : Step) → steps_from c s (steps ++ step ∷ []) ≡ radio_step c (steps_from c s steps) step
steps_from-push c s [] step = refl
steps_from-push c s (x ∷ steps) step = steps_from-push c (radio_step c s x) steps step

pub after_steps-push : (c : RadioConfig) (steps : List Step) (step : Step) → after_steps c (steps ++ step ∷ []) ≡ radio_step c (after_steps c steps) step
unfolding after_steps
after_steps-push c steps step = steps_from-push c (first_state c) steps step

-- what holds of no steps and the first state, and goes on to hold with each step, holds of all steps and the state
-- after them
steps_from-follow : (c : RadioConfig) (Q : List Step → RadioState → Type 0) → ((done : List Step) (s : RadioState) (step : Step) → Q done s → Q (done ++ step ∷ []) (radio_step c s step)) → (done : List Step) (s : RadioState) (steps : List Step) → Q done s → Q (done ++ steps) (steps_from c s steps)
steps_from-follow c Q goes done s [] h = subst (λ xs. Q xs s) (sym (append-nil done)) h
steps_from-follow c Q goes done s (step ∷ steps) h =
    subst (λ xs. Q xs (steps_from c (radio_step c s step) steps)) (append_assoc done (step ∷ []) steps)
    (steps_from-follow c Q goes (done ++ step ∷ []) (radio_step c s step) steps (goes done s step h))

pub after_steps-follow : (c : RadioConfig) (Q : List Step → RadioState → Type 0) → Q [] (first_state c) → ((done : List Step) (s : RadioState) (step : Step) → Q done s → Q (done ++ step ∷ []) (radio_step c s step)) → (steps : List Step) → Q steps (after_steps c steps)
unfolding after_steps
after_steps-follow c Q first goes steps = steps_from-follow c Q goes [] (first_state c) steps first

-- ---- one place changed

-- what holds of the changed place, and of each other, holds of each
pub at_each_place : (s : RadioState) (place : ℕ) (p : Place) (Q : ℕ → Place → Type 0) → place < length s.places → Q place p → ((other : ℕ) → (other ≡ place → ⊥) → Q other (place_at s other)) → (other : ℕ) → Q other (place_at (with_place s place p) other)
at_each_place s place p Q within here others other =
    elim (cases_eq other place) [
      | inl e ↦
          subst (λ n. Q n (place_at (with_place s place p) n)) (sym e)
          (subst (Q place) (sym (get_or-set_same s.places place p _ within)) here)
      | inr ne ↦ subst (Q other) (sym (get_or-set_other s.places place other p _ ne)) (others other ne)
    ]

-- ---- the part of a network, with one step more

-- the events that it is to take, with one step more
all_for-push : (place : ℕ) (steps : List Step) (step : Step) → filter_map (event_for place) (steps ++ step ∷ []) ≡ filter_map (event_for place) steps ++ filter_map (event_for place) (step ∷ [])
all_for-push place steps step = filter_map-append (event_for place) steps (step ∷ [])

-- a step that gives it no event leaves its part
pub part_of-none : (c : RadioConfig) (place : ℕ) (steps : List Step) (step : Step) → event_for place step ≡ None → part_of c place (steps ++ step ∷ []) ≡ part_of c place steps
part_of-none c place steps step none =
    let all = filter_map (event_for place) steps in
    ap (take (network_at c place).max_events)
    (all_for-push place steps step ∙ ap (λ (o : Option Event). all ++ cons_option o []) none ∙ append-nil all)

-- an event goes last, where there is room for it
pub part_of-room : (c : RadioConfig) (place : ℕ) (steps : List Step) (step : Step) (event : Event) → event_for place step ≡ Some event → length (part_of c place steps) < (network_at c place).max_events → part_of c place (steps ++ step ∷ []) ≡ part_of c place steps ++ event ∷ []
part_of-room c place steps step event some room =
    let most : ℕ = (network_at c place).max_events in
    let all : List Event = filter_map (event_for place) steps in
    let few : length all < most = omega (arith, length-take most all) in
    let more : filter_map (event_for place) (steps ++ step ∷ []) ≡ all ++ event ∷ [] = all_for-push place steps step ∙ ap (λ (o : Option Event). all ++ cons_option o []) some in
    ap (take most) more ∙ take_all most (all ++ event ∷ []) (omega (arith, length-append all (event ∷ [])))
    ∙ ap (λ (es : List Event). es ++ event ∷ []) (sym (take_all most all (omega arith)))

-- a full part stays
pub part_of-full : (c : RadioConfig) (place : ℕ) (steps : List Step) (step : Step) → (network_at c place).max_events ≤ length (part_of c place steps) → part_of c place (steps ++ step ∷ []) ≡ part_of c place steps
part_of-full c place steps step full =
    let most : ℕ = (network_at c place).max_events in
    let all : List Event = filter_map (event_for place) steps in
    ap (take most) (all_for-push place steps step)
    ∙ take-append-le most all (filter_map (event_for place) (step ∷ [])) (omega (arith, length-take most all))

-- ---- each network took its part

-- the state has a place for each network, and each of them took its part of the steps
record TookParts (c : RadioConfig) (steps : List Step) (s : RadioState) : Type 0 where
  size : length s.places ≡ length c.networks
  took : (place : ℕ) → place < length c.networks → (place_at s place).events ≡ part_of c place steps

took_none : (c : RadioConfig) → TookParts c [] (first_state c)
took_none c = record {
  size = length-map c.networks (λ _. untouched);
  took = λ place within. ap (λ (p : Place). p.events) (get_or-map (λ _. untouched) c.networks place (network_at c place) untouched within) ∙ sym (take_all (network_at c place).max_events [] (omega arith));
}

-- a step that gives no network an event
took_same : (c : RadioConfig) (steps : List Step) (s : RadioState) (step : Step) → TookParts c steps s → ((place : ℕ) → place < length c.networks → part_of c place (steps ++ step ∷ []) ≡ part_of c place steps) → TookParts c (steps ++ step ∷ []) s
took_same c steps s step h same = record {
  size = h.size;
  took = λ place within. h.took place within ∙ sym (same place within);
}

event_for-other : (place other : ℕ) (event : Event) → (other ≡ place → ⊥) → event_for place (Take other event) ≡ None
event_for-other place other event ne = rw (ne_eqb other place ne) refl

event_for-same : (place : ℕ) (event : Event) → event_for place (Take place event) ≡ Some event
event_for-same place event = rw (eq-eqb place place refl) refl

took_event : (c : RadioConfig) (steps : List Step) (s : RadioState) (place : ℕ) (event : Event) → TookParts c steps s → place < length c.networks → length (place_at s place).events < (network_at c place).max_events → TookParts c (steps ++ Take place event ∷ []) (with_place s place (record (place_at s place) { events = (place_at s place).events ++ event ∷ [] }))
took_event c steps s place event h within room = record {
  size = length-set s.places place _ ∙ h.size;
  took =
      at_each_place s place _ (λ q p. q < length c.networks → p.events ≡ part_of c q (steps ++ Take place event ∷ [])) (omega (arith, h.size)) (λ _. here) others;
}
  where
    mine : (place_at s place).events ≡ part_of c place steps
    mine = h.took place within

    here : (place_at s place).events ++ event ∷ [] ≡ part_of c place (steps ++ Take place event ∷ [])
    here =
        ap (λ (es : List Event). es ++ event ∷ []) mine
        ∙ sym (part_of-room c place steps (Take place event) event (event_for-same place event) (omega (arith, ap length mine)))

    others : (q : ℕ) → (q ≡ place → ⊥) → q < length c.networks → (place_at s q).events ≡ part_of c q (steps ++ Take place event ∷ [])
    others q ne l =
        h.took q l
        ∙ sym (part_of-none c q steps (Take place event) (event_for-other q place event (λ e. ne (sym e))))

-- an event that the network doesn't take: it is no network, or its history is full
took_no_event : (c : RadioConfig) (steps : List Step) (s : RadioState) (place : ℕ) (event : Event) → TookParts c steps s → (place < length c.networks → (network_at c place).max_events ≤ length (place_at s place).events) → TookParts c (steps ++ Take place event ∷ []) s
took_no_event c steps s place event h full = took_same c steps s (Take place event) h same
  where
    same : (q : ℕ) → q < length c.networks → part_of c q (steps ++ Take place event ∷ []) ≡ part_of c q steps
    same q l =
        elim (cases_eq place q) [
          | inl e ↦
              let count = ap length (h.took q l) in
              let most = subst (λ n. n < length c.networks → (network_at c n).max_events ≤ length (place_at s n).events) e full l in
              part_of-full c q steps (Take place event) (omega arith)
          | inr ne ↦ part_of-none c q steps (Take place event) (event_for-other q place event ne)
        ]

-- the first waiting frame is handed, or not: the events stay
took_handed : (c : RadioConfig) (steps : List Step) (s : RadioState) (place : ℕ) (o : Option (List ℕ)) → TookParts c steps s → place < length c.networks → TookParts c (steps ++ Hand place ∷ []) (hand_frame c s place o)
took_handed c steps s place None h within =
    took_same c steps s (Hand place) h (λ q l. part_of-none c q steps (Hand place) refl)
took_handed c steps s place (Some octets) h within = cond_both (ltb (length s.queue) c.queue) _ s (TookParts c (steps ++ Hand place ∷ [])) (λ _. moved) (λ _. same)
  where
    same : TookParts c (steps ++ Hand place ∷ []) s
    same = took_same c steps s (Hand place) h (λ q l. part_of-none c q steps (Hand place) refl)

    moved : TookParts c (steps ++ Hand place ∷ []) (record (with_place s place (record (place_at s place) { handed = (place_at s place).handed + 1 })) { queue = s.queue ++ (record { place = place; octets = octets }) ∷ [] })
    moved = record {
      size = length-set s.places place _ ∙ h.size;
      took =
          at_each_place s place _ (λ q p. q < length c.networks → p.events ≡ part_of c q (steps ++ Hand place ∷ [])) (omega (arith, h.size)) (same.took place) (λ q ne. same.took q);
    }

took_left : (c : RadioConfig) (steps : List Step) (s : RadioState) (items : List AirItem) → TookParts c steps s → TookParts c (steps ++ Leave ∷ []) (leave_first s items)
took_left c steps s [] h = took_same c steps s Leave h (λ q l. part_of-none c q steps Leave refl)
took_left c steps s (item ∷ items) h =
    let same = took_same c steps s Leave h (λ q l. part_of-none c q steps Leave refl) in
    record { size = same.size; took = same.took }

took_step : (c : RadioConfig) (steps : List Step) (s : RadioState) (step : Step) → TookParts c steps s → TookParts c (steps ++ step ∷ []) (radio_step c s step)
unfolding radio_step
took_step c steps s (Take place event) h =
    cond_both (names_network c place) _ s (TookParts c (steps ++ Take place event ∷ []))
    (λ named.
    let within = ltb-true place (length c.networks) named in
    cond_both (ltb (length (place_at s place).events) (network_at c place).max_events) _ s (TookParts c (steps ++ Take place event ∷ []))
    (λ room. took_event c steps s place event h within (ltb-true _ _ room))
    (λ full. took_no_event c steps s place event h (λ _. ltb-false _ _ full)))
    (λ none. took_no_event c steps s place event h (λ within. absurd (omega (arith, ltb-false place (length c.networks) none))))
took_step c steps s (Hand place) h =
    cond_both (names_network c place) _ s (TookParts c (steps ++ Hand place ∷ []))
    (λ named. took_handed c steps s place _ h (ltb-true place (length c.networks) named))
    (λ none. took_same c steps s (Hand place) h (λ q l. part_of-none c q steps (Hand place) refl))
took_step c steps s Leave h = took_left c steps s s.queue h

took_parts : (c : RadioConfig) (steps : List Step) → TookParts c steps (after_steps c steps)
took_parts c steps = after_steps-follow c (TookParts c) (took_none c) (took_step c) steps

-- there is a place for each network
pub length-places : (c : RadioConfig) (steps : List Step) → length (after_steps c steps).places ≡ length c.networks
length-places c steps = (took_parts c steps).size

-- the events that a network took are its part of the steps
pub events-part : (c : RadioConfig) (steps : List Step) (place : ℕ) → place < length c.networks → (place_at (after_steps c steps) place).events ≡ part_of c place steps
events-part c steps = (took_parts c steps).took
