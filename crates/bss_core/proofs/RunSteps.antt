-- A radio that runs is at the state that the steps so far make: one step more, by its kind.
use Rattle.std.proofs.Common.{◌≡◌, ◌≢◌, ◌↔◌, ℕ, ◌+◌, ◌≤◌, ◌<◌, List, [], ◌∷◌, ◌++◌, length, drop, slice_get, set, Some, None, refl, sym, ap, subst, ◌∙◌, arith}
use Rattle.std.specs.List.{filter_map}
use Rattle.std.proofs.lemmas.List.{length-take, length-drop, get_or-map, get_or-set_same, get_or-set_other, drop-append-le, drop_more}
use Rattle.std.proofs.lemmas.Option.{slice_get_past, slice_get-get_or}
use Rattle.network.specs.Network.{alone}
use Rattle.ap_config.specs.Places.{network_at, setting_at}
use Rattle.bss_core.specs.Radio.{Place, untouched, RadioState, first_state, place_at, air_at, waiting_at, with_place, radio_step, after_steps, event_for}
use Rattle.bss_core.specs.RadioView.{RadioView, NetworkView, unused, view_at, IsSoundRadio, fresh_radio, took, moved, after_hand}
use Rattle.bss_core.specs.Running.{IsAt}
use Rattle.network.specs.BssView.{sent_by}
use Rattle.ap_config.specs.declared.config.RadioConfig.{RadioConfig}
use Rattle.events.specs.declared.event.Event.{Event}
use Rattle.events.specs.declared.air_item.AirItem.{AirItem}
use Rattle.events.specs.declared.air_item.Handed.{Handed}
use Rattle.events.specs.declared.air_item.Handed.TheVariants.{Moved, Nothing, QueueFull}
use Rattle.bss_core.specs.declared.radio.step.Step.{Step}
use Rattle.bss_core.specs.declared.radio.step.Step.TheVariants.{Take, Hand, Leave}
use Rattle.bss_core.proofs.RadioFrames.{handed-le}
use Rattle.bss_core.proofs.RadioSteps.{after_steps-none, after_steps-push, at_each_place, length-places, events-part}
use Rattle.bss_core.proofs.FrameLaws.{FrameLaws}
use Rattle.bss_core.proofs.StepKinds.{take-room, take-full, take-nowhere, hand-frame, hand-full, hand-nothing, hand-nowhere, leave-first, leave-nothing}

-- ---- the next frame

nothing-next : (frames : List (List ℕ)) (number : ℕ) → drop number frames ≡ [] → slice_get frames number ≡ None
nothing-next frames number none =
    slice_get_past frames number (omega (arith, length-drop number frames, ap length none))

frame-next : (frames : List (List ℕ)) (number : ℕ) (octets : List ℕ) (rest : List (List ℕ)) → drop number frames ≡ octets ∷ rest → (slice_get frames number ≡ Some octets) × (drop (number + 1) frames ≡ rest)
frame-next frames number octets rest is =
    let within : number < length frames = omega (arith, length-drop number frames, ap length is) in
    let more = drop_more frames number octets within in
    let got = slice_get-get_or frames number octets within in
    (cc, cc)

-- ---- a radio that opens

waiting-first : (c : RadioConfig) (place : ℕ) → place < length c.networks → waiting_at c (first_state c) place ≡ []
unfolding alone
waiting-first c place within =
    ap (λ (p : Place). drop p.handed (alone (setting_at c place) p.events).air) (get_or-map (λ _. untouched) c.networks place (network_at c place) untouched within)

pub is_at-first : (c : RadioConfig) → IsAt (after_steps c []) (fresh_radio c) []
is_at-first c =
    subst (λ (s : RadioState). IsAt s (fresh_radio c) []) (sym (after_steps-none c))
    (record {
      left = refl;
      queue = refl;
      history = λ place within. ap (λ (v : NetworkView). v.history) (view place within) ∙ sym (ap (λ (p : Place). p.events) (at place within));
      waiting = λ place within. ap (λ (v : NetworkView). v.waiting) (view place within) ∙ sym (waiting-first c place within);
    })
  where
    view : (place : ℕ) → place < length c.networks → view_at (fresh_radio c) place ≡ unused
    view place within = get_or-map (λ _. unused) c.networks place (network_at c place) unused within

    at : (place : ℕ) → place < length c.networks → place_at (first_state c) place ≡ untouched
    at place within = get_or-map (λ _. untouched) c.networks place (network_at c place) untouched within

-- ---- a step that changes nothing

is_at-same : (r : RadioView) (before : List Step) (gone : List AirItem) (step : Step) → IsAt (after_steps r.config before) r gone → radio_step r.config (after_steps r.config before) step ≡ after_steps r.config before → IsAt (after_steps r.config (before ++ step ∷ [])) r gone
is_at-same r before gone step h same =
    subst (λ (s : RadioState). IsAt s r gone) (sym (after_steps-push r.config before step ∙ same)) h

-- ---- a step that changes one network

-- the network at this place is shown as it is at this place
record Shows (c : RadioConfig) (place : ℕ) (p : Place) (v : NetworkView) : Type 0 where
  history : v.history ≡ p.events
  waiting : v.waiting ≡ drop p.handed (alone (setting_at c place) p.events).air

shows-at : (s : RadioState) (r : RadioView) (gone : List AirItem) (place : ℕ) → IsAt s r gone → place < length r.config.networks → Shows r.config place (place_at s place) (view_at r place)
shows-at s r gone place h within = record { history = h.history place within; waiting = h.waiting place within }

is_at-changed : (r : RadioView) (before : List Step) (gone : List AirItem) (step : Step) (place : ℕ) (p : Place) (v : NetworkView) (items : List AirItem) → IsSoundRadio r → place < length r.config.networks → IsAt (after_steps r.config before) r gone → radio_step r.config (after_steps r.config before) step ≡ record (with_place (after_steps r.config before) place p) { queue = items } → Shows r.config place p v → IsAt (after_steps r.config (before ++ step ∷ [])) (record r { networks = set r.networks place v; queue = items }) gone
is_at-changed r before gone step place p v items sound within h is shows = subst (λ (t : RadioState). IsAt t next gone) (sym (after_steps-push r.config before step ∙ is)) (record { left = h.left; queue = refl; history = λ q l. (each q l).history; waiting = λ q l. (each q l).waiting })
  where
    s : RadioState
    s = after_steps r.config before

    next : RadioView
    next = record r { networks = set r.networks place v; queue = items }

    here : Shows r.config place p (view_at next place)
    here =
        subst (Shows r.config place p) (sym (get_or-set_same r.networks place v unused (omega (arith, sound.whole)))) shows

    each : (q : ℕ) → q < length r.config.networks → Shows r.config q (place_at (with_place s place p) q) (view_at next q)
    each =
        at_each_place s place p (λ q t. q < length r.config.networks → Shows r.config q t (view_at next q)) (omega (arith, length-places r.config before)) (λ _. here) (λ q ne l. subst (Shows r.config q (place_at s q)) (sym (get_or-set_other r.networks place q v unused ne)) (shows-at s r gone q h l))

-- ---- an event

-- no network takes more events than it may
history-le : (r : RadioView) (before : List Step) (gone : List AirItem) (place : ℕ) → IsAt (after_steps r.config before) r gone → place < length r.config.networks → length (view_at r place).history ≤ (network_at r.config place).max_events
history-le r before gone place h within =
    let part = ap length (h.history place within ∙ events-part r.config before place within) in
    omega (arith, length-take (network_at r.config place).max_events (filter_map (event_for place) before))

pub is_at-took : FrameLaws → (r : RadioView) (before : List Step) (gone : List AirItem) (place : ℕ) (event : Event) → IsSoundRadio r → place < length r.config.networks → length (view_at r place).history ≢ (network_at r.config place).max_events → IsAt (after_steps r.config before) r gone → IsAt (after_steps r.config (before ++ Take place event ∷ [])) (took place event r) gone
is_at-took laws r before gone place event sound within not_full h =
    let c : RadioConfig = r.config in
    let s : RadioState = after_steps c before in
    let p : Place = place_at s place in
    let shown = shows-at s r gone place h within in
    let count = ap length shown.history in
    let room : length p.events < (network_at c place).max_events = omega (arith, history-le r before gone place h within) in
    let frames : List (List ℕ) = air_at c s place in
    let sent : List (List ℕ) = sent_by (setting_at c place) p.events event in
    let waits : (view_at r place).waiting ++ sent_by (setting_at c place) (view_at r place).history event ≡ drop p.handed (alone (setting_at c place) (p.events ++ event ∷ [])).air = ap (λ (es : List Event). (view_at r place).waiting ++ sent_by (setting_at c place) es event) shown.history ∙ ap (λ (fs : List (List ℕ)). fs ++ sent) shown.waiting ∙ sym (drop-append-le p.handed frames sent (handed-le laws c before place)) ∙ ap (drop p.handed) (sym (laws.sent (setting_at c place) p.events event)) in
    subst (λ (q : List AirItem). IsAt (after_steps c (before ++ Take place event ∷ [])) (record (took place event r) { queue = q }) gone) (sym h.queue)
    (is_at-changed r before gone (Take place event) place _ _ s.queue sound within h (take-room c s place event within room) (record { history = ap (λ (es : List Event). es ++ event ∷ []) shown.history; waiting = waits }))

pub is_at-full : (r : RadioView) (before : List Step) (gone : List AirItem) (place : ℕ) (event : Event) → place < length r.config.networks → length (view_at r place).history ≡ (network_at r.config place).max_events → IsAt (after_steps r.config before) r gone → IsAt (after_steps r.config (before ++ Take place event ∷ [])) r gone
is_at-full r before gone place event within full h =
    is_at-same r before gone (Take place event) h (take-full r.config (after_steps r.config before) place event within (omega (arith, ap length (h.history place within))))

pub is_at-nowhere : (r : RadioView) (before : List Step) (gone : List AirItem) (place : ℕ) (event : Event) → length r.config.networks ≤ place → IsAt (after_steps r.config before) r gone → IsAt (after_steps r.config (before ++ Take place event ∷ [])) r gone
is_at-nowhere r before gone place event past h =
    is_at-same r before gone (Take place event) h (take-nowhere r.config (after_steps r.config before) place event past)

-- ---- a frame for the queue

pub is_at-hand_nowhere : (r : RadioView) (before : List Step) (gone : List AirItem) (place : ℕ) → length r.config.networks ≤ place → IsAt (after_steps r.config before) r gone → IsAt (after_steps r.config (before ++ Hand place ∷ [])) r gone
is_at-hand_nowhere r before gone place past h =
    is_at-same r before gone (Hand place) h (hand-nowhere r.config (after_steps r.config before) place past)

hand_empty : (r : RadioView) (before : List Step) (gone : List AirItem) (place : ℕ) → place < length r.config.networks → (view_at r place).waiting ≡ [] → IsAt (after_steps r.config before) r gone → IsAt (after_steps r.config (before ++ Hand place ∷ [])) r gone
hand_empty r before gone place within none h =
    let s = after_steps r.config before in
    is_at-same r before gone (Hand place) h (hand-nothing r.config s place within (nothing-next (air_at r.config s place) (place_at s place).handed (sym (h.waiting place within) ∙ none)))

hand_refused : (r : RadioView) (before : List Step) (gone : List AirItem) (place : ℕ) (octets : List ℕ) (rest : List (List ℕ)) → place < length r.config.networks → (view_at r place).waiting ≡ octets ∷ rest → length r.queue ≡ r.config.queue → IsAt (after_steps r.config before) r gone → IsAt (after_steps r.config (before ++ Hand place ∷ [])) r gone
hand_refused r before gone place octets rest within first full h =
    let s = after_steps r.config before in
    let next = frame-next (air_at r.config s place) (place_at s place).handed octets rest (sym (h.waiting place within) ∙ first) in
    is_at-same r before gone (Hand place) h (hand-full r.config s place octets within next.0 (omega (arith, full, ap length h.queue)))

hand_moved : (r : RadioView) (before : List Step) (gone : List AirItem) (place : ℕ) (octets : List ℕ) (rest : List (List ℕ)) → IsSoundRadio r → place < length r.config.networks → (view_at r place).waiting ≡ octets ∷ rest → length r.queue ≢ r.config.queue → IsAt (after_steps r.config before) r gone → IsAt (after_steps r.config (before ++ Hand place ∷ [])) (moved place r (octets ∷ rest)) gone
hand_moved r before gone place octets rest sound within first not_full h =
    let c : RadioConfig = r.config in
    let s : RadioState = after_steps c before in
    let shown = shows-at s r gone place h within in
    let next = frame-next (air_at c s place) (place_at s place).handed octets rest (sym shown.waiting ∙ first) in
    let room : length s.queue < c.queue = omega (arith, sound.bounded, ap length h.queue) in
    subst (λ (q : List AirItem). IsAt (after_steps c (before ++ Hand place ∷ [])) (record (moved place r (octets ∷ rest)) { queue = q ++ (record { place = place; octets = octets }) ∷ [] }) gone) (sym h.queue)
    (is_at-changed r before gone (Hand place) place _ _ (s.queue ++ (record { place = place; octets = octets }) ∷ []) sound within h (hand-frame c s place octets within next.0 room) (record { history = shown.history; waiting = sym next.1 }))

-- whatever `hand` answers, as it says when it answers it
is_at-handed_by : (r : RadioView) (before : List Step) (gone : List AirItem) (place : ℕ) (waiting : List (List ℕ)) (answer : Handed) → (view_at r place).waiting ≡ waiting → IsSoundRadio r → place < length r.config.networks → (answer ≡ Nothing) ↔ ((view_at r place).waiting ≡ []) → (answer ≡ QueueFull) ↔ (((view_at r place).waiting ≢ []) × (length r.queue ≡ r.config.queue)) → IsAt (after_steps r.config before) r gone → IsAt (after_steps r.config (before ++ Hand place ∷ [])) (after_hand place answer r) gone
is_at-handed_by r before gone place waiting Nothing is sound within nothing full h =
    hand_empty r before gone place within (nothing.0 refl) h
is_at-handed_by r before gone place [] QueueFull is sound within nothing full h = absurd ((full.0 refl).0 is)
is_at-handed_by r before gone place (octets ∷ rest) QueueFull is sound within nothing full h =
    hand_refused r before gone place octets rest within is (full.0 refl).1 h
is_at-handed_by r before gone place [] Moved is sound within nothing full h =
    let wrong : Moved ≡ Nothing = nothing.1 is in
    absurd cc
is_at-handed_by r before gone place (octets ∷ rest) Moved is sound within nothing full h =
    let not_full : length r.queue ≢ r.config.queue = λ e. (let some : (view_at r place).waiting ≢ [] = λ none. (let same : octets ∷ rest ≡ [] = sym is ∙ none in cc) in let wrong : Moved ≡ QueueFull = full.1 (some, e) in cc) in
    subst (λ (w : List (List ℕ)). IsAt (after_steps r.config (before ++ Hand place ∷ [])) (moved place r w) gone) (sym is)
    (hand_moved r before gone place octets rest sound within is not_full h)

pub is_at-handed : (r : RadioView) (before : List Step) (gone : List AirItem) (place : ℕ) (answer : Handed) → IsSoundRadio r → place < length r.config.networks → (answer ≡ Nothing) ↔ ((view_at r place).waiting ≡ []) → (answer ≡ QueueFull) ↔ (((view_at r place).waiting ≢ []) × (length r.queue ≡ r.config.queue)) → IsAt (after_steps r.config before) r gone → IsAt (after_steps r.config (before ++ Hand place ∷ [])) (after_hand place answer r) gone
is_at-handed r before gone place answer sound within nothing full h =
    is_at-handed_by r before gone place (view_at r place).waiting answer refl sound within nothing full h

-- ---- a frame that leaves

pub is_at-left : (r : RadioView) (before : List Step) (gone : List AirItem) (item : AirItem) (items : List AirItem) → r.queue ≡ item ∷ items → IsAt (after_steps r.config before) r gone → IsAt (after_steps r.config (before ++ Leave ∷ [])) (record r { queue = items }) (gone ++ item ∷ [])
is_at-left r before gone item items is h =
    let s : RadioState = after_steps r.config before in
    subst (λ (t : RadioState). IsAt t (record r { queue = items }) (gone ++ item ∷ [])) (sym (after_steps-push r.config before Leave ∙ leave-first r.config s item items (sym h.queue ∙ is)))
    (record { left = ap (λ (gs : List AirItem). gs ++ item ∷ []) h.left; queue = refl; history = h.history; waiting = h.waiting })

pub is_at-none_left : (r : RadioView) (before : List Step) (gone : List AirItem) → r.queue ≡ [] → IsAt (after_steps r.config before) r gone → IsAt (after_steps r.config (before ++ Leave ∷ [])) r gone
is_at-none_left r before gone none h =
    is_at-same r before gone Leave h (leave-nothing r.config (after_steps r.config before) (sym h.queue ∙ none))
