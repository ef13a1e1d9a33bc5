-- What calls make of a radio's networks: each is alone, and the rule of shares says whose turn it is.
use Rattle.std.proofs.Common.{◌≡◌, ◌+◌, ◌*◌, ◌≤◌, ℕ, zero, suc, Bool, true, false, List, [], ◌∷◌, ◌++◌, map, set, Option, Some, None, is_some}
use Rattle.std.proofs.Common.{refl, sym, ap, ◌∙◌, subst, inl, inr, append_assoc}
use Rattle.std.specs.Prelude.{slice_get}
use Rattle.std.specs.Option.{option_map, option_to_list}
use Rattle.std.proofs.lemmas.List.{map-set, map_push}
use Rattle.std.proofs.lemmas.Option.{none-some, same_Some, slice_get-map}
use Rattle.air_share.specs.declared.lane.Lane.{Lane}
use Rattle.air_share.specs.Lanes.{lane_at, lowered, after_turn, after_telling, chosen}
use Rattle.air_share.specs.LaneRuns.{LaneEvent, Waits, Tell, lane_step, lanes_after, after_choice, WaitsForTurn, WaitsThroughout}
use Rattle.air_share.specs.LaneRuns.{air_of, IsWithin, IsPassedOver, IsBounded, IsSoon}
use Rattle.downlink.specs.declared.answer.Answer.{Answer}
use Rattle.downlink.specs.Receiver.{new_queue}
use Rattle.downlink.specs.Parts.{put_at, after_one, own_answers}
use Rattle.downlink.specs.Networks.{Network, new_network, first_from, or_else, has_next, NetworkCall, network_step, network_answer}
use Rattle.downlink.specs.Radios.{Radio, new_lane, RadioCall, Of, Next, NextOf, Pauses, Used, goes_to_network, radio_answer, radio_step}
use Rattle.downlink.specs.Radios.{waits_now, waits_after, turn_if, is_sent, air_events, lane_events_by, radio_after, radio_answers, lane_events}
use Rattle.downlink.specs.Radios.{own_calls, queue_alone, answers_alone}
use Rattle.downlink.specs.RadioLaws.{IsAlone, IsUnmoved, waits_of, IsTold, StaysTold, IsToldWithMore, IsMadeOneByOne, IsByTheRule}
use Rattle.downlink.specs.RadioLaws.{HasNextAt, HasNextThroughout, scale_at, IsFair, IsPrompt}
use Rattle.downlink.proofs.Parts.{set_there, own_step, own_answers-append}

-- ---- isolation

pub radio_alone : IsAlone
radio_alone r [] place n e = (e, refl)
radio_alone r (call ∷ calls) place n e =
    let later : Radio = radio_step r call in
    let own : List NetworkCall = own_calls place later calls in
    let told : List (ℕ × (ℕ × Answer)) = radio_answers later calls in
    let apart = own_answers-append place (option_to_list (radio_answer r call)) told in
    elim (own_step network_step network_answer (goes_to_network r call) r.networks place n e) [
      | inl h ↦
          let rest = radio_alone later calls place n h.1 in (
            rest.0 ∙ ap (λ front. Some (queue_alone n (front ++ own))) (sym h.0),
            apart ∙ ap (λ front. front ++ own_answers place told) h.2 ∙ rest.1
                ∙ ap (λ front. answers_alone n (front ++ own)) (sym h.0),
          )
      | inr h ↦
          let rest = radio_alone later calls place (network_step n h.0) h.2 in (
            rest.0 ∙ ap (λ front. Some (queue_alone n (front ++ own))) (sym h.1),
            apart ∙ ap (λ front. front ++ own_answers place told) h.3
                ∙ ap (λ rear. option_to_list (network_answer n h.0) ++ rear) rest.1
                ∙ ap (λ front. answers_alone n (front ++ own)) (sym h.1),
          )
    ]

pub unmoved : IsUnmoved
unmoved r s calls others place n a b same =
    let here = radio_alone r calls place n a in
    let there = radio_alone s others place n b in (
      here.0 ∙ ap (λ own. Some (queue_alone n own)) same ∙ sym there.0,
      here.1 ∙ ap (answers_alone n) same ∙ sym there.1,
    )

-- ---- the lanes

lanes_after-append : (lanes : List Lane) (xs ys : List LaneEvent) → lanes_after lanes (xs ++ ys) ≡ lanes_after (lanes_after lanes xs) ys
lanes_after-append lanes [] ys = refl
lanes_after-append lanes (x ∷ xs) ys = lanes_after-append (lane_step lanes x) xs ys

pub by_the_rule : IsByTheRule
by_the_rule r [] = refl
by_the_rule r (call ∷ calls) =
    by_the_rule (radio_step r call) calls
    ∙ sym (lanes_after-append r.lanes (lane_events_by r call) (lane_events (radio_step r call) calls))

waits-set : (lanes : List Lane) (place : ℕ) (lane : Lane) → lane.waits ≡ (lane_at lanes place).waits
    → waits_of (set lanes place lane) ≡ waits_of lanes
waits-set [] place lane e = refl
waits-set (l ∷ lanes) zero lane e = ap (λ w. w ∷ waits_of lanes) e
waits-set (l ∷ lanes) (suc place) lane e = ap (λ ws. l.waits ∷ ws) (waits-set lanes place lane e)

waits-lowered : (by : ℕ) (lanes : List Lane) → waits_of (map (lowered by) lanes) ≡ waits_of lanes
waits-lowered by [] = refl
waits-lowered by (l ∷ lanes) = ap (λ ws. l.waits ∷ ws) (waits-lowered by lanes)

waits_at-lowered : (by : ℕ) (lanes : List Lane) (place : ℕ) → (lane_at lanes place).waits ≡ (lane_at (map (lowered by) lanes) place).waits
waits_at-lowered by [] place = refl
waits_at-lowered by (l ∷ lanes) zero = refl
waits_at-lowered by (l ∷ lanes) (suc place) = waits_at-lowered by lanes place

waits-turn : (lanes : List Lane) (cost : ℕ) (turn : Option ℕ) → waits_of (after_choice lanes cost turn) ≡ waits_of lanes
unfolding after_turn
waits-turn lanes cost None = refl
waits-turn lanes cost (Some place) =
    let by : ℕ = (lane_at lanes place).debt in
    waits-set (map (lowered by) lanes) place _ (waits_at-lowered by lanes place) ∙ waits-lowered by lanes

waits-serve : (lanes : List Lane) (sent : Bool) → waits_of (lanes_after lanes (turn_if sent)) ≡ waits_of lanes
unfolding lane_step
waits-serve lanes true = waits-turn lanes 0 (chosen lanes)
waits-serve lanes false = refl

waits-tell : (lanes : List Lane) (place units : ℕ) → waits_of (lane_step lanes (Tell place units)) ≡ waits_of lanes
unfolding lane_step after_telling
waits-tell lanes place units = waits-set lanes place _ refl

waits-air : (r : Radio) (call : RadioCall) → waits_of (lanes_after r.lanes (air_events r call)) ≡ waits_of r.lanes
waits-air r (Of place receiver call) = refl
waits-air r (Next now) = waits-serve r.lanes (is_sent (radio_answer r (Next now)))
waits-air r (NextOf place receiver now) = waits-serve r.lanes (is_sent (radio_answer r (NextOf place receiver now)))
waits-air r (Pauses place is_paused) = refl
waits-air r (Used place units) = waits-tell r.lanes place units

waits-step : (lanes : List Lane) (place : ℕ) (waits : Bool) → waits_of (lane_step lanes (Waits place waits)) ≡ set (waits_of lanes) place waits
unfolding lane_step
waits-step lanes place waits = map-set (λ (lane : Lane). lane.waits) lanes place (record (lane_at lanes place) { waits = waits })

found_told : (lanes : List Lane) (networks : List Network) (place : ℕ) (call : NetworkCall) (found : Option Network)
    → slice_get networks place ≡ found → waits_of lanes ≡ map has_next networks
    → waits_of (lanes_after lanes (waits_now place (slice_get (put_at (λ n. network_step n call) place networks found) place)))
    ≡ map has_next (put_at (λ n. network_step n call) place networks found)
found_told lanes networks place call None e h = ap (λ o. waits_of (lanes_after lanes (waits_now place o))) e ∙ h
found_told lanes networks place call (Some n) e h =
    let later : Network = network_step n call in
    ap (λ o. waits_of (lanes_after lanes (waits_now place o))) (set_there networks place n later e)
    ∙ waits-step lanes place (has_next later) ∙ ap (λ ws. set ws place (has_next later)) h
    ∙ sym (map-set has_next networks place later)

given_told : (lanes : List Lane) (networks : List Network) (given : Option (ℕ × NetworkCall))
    → waits_of lanes ≡ map has_next networks
    → waits_of (lanes_after lanes (waits_after (after_one network_step given networks) given))
    ≡ map has_next (after_one network_step given networks)
given_told lanes networks None h = h
given_told lanes networks (Some given) h = found_told lanes networks given.0 given.1 (slice_get networks given.0) refl h

step_told : (r : Radio) (call : RadioCall) → IsTold r → IsTold (radio_step r call)
step_told r call h =
    ap waits_of (lanes_after-append r.lanes (air_events r call) (waits_after (after_one network_step (goes_to_network r call) r.networks) (goes_to_network r call)))
    ∙ given_told (lanes_after r.lanes (air_events r call)) r.networks (goes_to_network r call) (waits-air r call ∙ h)

pub stays_told : StaysTold
stays_told r [] h = h
stays_told r (call ∷ calls) h = stays_told (radio_step r call) calls (step_told r call h)

pub told_with_more : IsToldWithMore
told_with_more r weight n h =
    map_push (λ (lane : Lane). lane.waits) r.lanes (record (new_lane weight) { waits = has_next n })
    ∙ ap (λ ws. ws ++ has_next n ∷ []) h ∙ sym (map_push has_next r.networks n)

nothing_goes : (from : ℕ) (mosts : List ℕ) → first_from from (map new_queue mosts) ≡ None
nothing_goes from [] = refl
nothing_goes zero (most ∷ mosts) = ap (option_map suc) (nothing_goes zero mosts)
nothing_goes (suc from) (most ∷ mosts) = ap (option_map suc) (nothing_goes from mosts)

pub made_one_by_one : IsMadeOneByOne
made_one_by_one settings weight mosts =
    let lane : ℕ × List ℕ → Lane = λ setting. new_lane setting.0 in
    let network : ℕ × List ℕ → Network = λ setting. new_network setting.1 in
    let none : false ≡ has_next (new_network mosts) =
    ap (λ turn. is_some (or_else turn turn)) (sym (nothing_goes zero mosts)) in
    let radio : List Lane → List Network → Radio = λ lanes networks. record { lanes = lanes; networks = networks } in
    ap (λ waits. radio (map lane settings ++ record (new_lane weight) { waits = waits } ∷ []) (map network settings ++ new_network mosts ∷ [])) (sym none)
    ∙ ap (λ lanes. radio lanes (map network settings ++ new_network mosts ∷ [])) (sym (map_push lane settings (weight, mosts)))
    ∙ ap (radio (map lane (settings ++ (weight, mosts) ∷ []))) (sym (map_push network settings (weight, mosts)))

-- ---- shares

lane_events-append : (r : Radio) (xs ys : List RadioCall) → lane_events r (xs ++ ys) ≡ lane_events r xs ++ lane_events (radio_after r xs) ys
lane_events-append r [] ys = refl
lane_events-append r (x ∷ xs) ys =
    ap (λ rear. lane_events_by r x ++ rear) (lane_events-append (radio_step r x) xs ys)
    ∙ sym (append_assoc (lane_events_by r x) (lane_events (radio_step r x) xs) (lane_events (radio_after (radio_step r x) xs) ys))

waits-append : (place : ℕ) (lanes : List Lane) (xs ys : List LaneEvent) → WaitsThroughout place lanes xs
    → WaitsThroughout place (lanes_after lanes xs) ys → WaitsThroughout place lanes (xs ++ ys)
waits-append place lanes [] ys h k = k
waits-append place lanes (x ∷ xs) ys h k = (h.0, waits-append place (lane_step lanes x) xs ys h.1 k)

waits_slot : (lanes : List Lane) (place : ℕ) → slice_get (waits_of lanes) place ≡ Some true → (lane_at lanes place).waits ≡ true
waits_slot [] place e = absurd (none-some true e)
waits_slot (l ∷ lanes) zero e = same_Some l.waits true e
waits_slot (l ∷ lanes) (suc place) e = waits_slot lanes place e

told_at : (r : Radio) (place : ℕ) → IsTold r → option_map has_next (slice_get r.networks place) ≡ Some true
    → (lane_at r.lanes place).waits ≡ true
told_at r place t h =
    waits_slot r.lanes place (ap (λ ws. slice_get ws place) t ∙ slice_get-map has_next r.networks place ∙ h)

calm_now : (place : ℕ) (lanes : List Lane) (other : ℕ) (found : Option Network) → WaitsThroughout place lanes (waits_now other found)
unfolding WaitsForTurn
calm_now place lanes other None = tt
calm_now place lanes other (Some n) = (tt, tt)

calm : (place : ℕ) (lanes : List Lane) (networks : List Network) (given : Option (ℕ × NetworkCall))
    → WaitsThroughout place lanes (waits_after networks given)
calm place lanes networks None = tt
calm place lanes networks (Some given) = calm_now place lanes given.0 (slice_get networks given.0)

calm_turn : (place : ℕ) (lanes : List Lane) (sent : Bool) → (lane_at lanes place).waits ≡ true → WaitsThroughout place lanes (turn_if sent)
unfolding WaitsForTurn
calm_turn place lanes true h = (h, tt)
calm_turn place lanes false h = tt

calm_tell : (place : ℕ) (lanes : List Lane) (other units : ℕ) → WaitsThroughout place lanes (Tell other units ∷ [])
unfolding WaitsForTurn
calm_tell place lanes other units = (tt, tt)

air_calm : (place : ℕ) (r : Radio) (call : RadioCall) → IsTold r → HasNextAt place r call
    → WaitsThroughout place r.lanes (air_events r call)
air_calm place r (Of other receiver call) t h = tt
air_calm place r (Next now) t h = calm_turn place r.lanes (is_sent (radio_answer r (Next now))) (told_at r place t h)
air_calm place r (NextOf other receiver now) t h =
    calm_turn place r.lanes (is_sent (radio_answer r (NextOf other receiver now))) (told_at r place t h)
air_calm place r (Pauses other is_paused) t h = tt
air_calm place r (Used other units) t h = calm_tell place r.lanes other units

throughout : (place : ℕ) (r : Radio) (calls : List RadioCall) → IsTold r → HasNextThroughout place r calls
    → WaitsThroughout place r.lanes (lane_events r calls)
throughout place r [] t h = tt
throughout place r (call ∷ calls) t h =
    let given = goes_to_network r call in
    let rear : List LaneEvent = waits_after (after_one network_step given r.networks) given in
    waits-append place r.lanes (lane_events_by r call) (lane_events (radio_step r call) calls)
    (waits-append place r.lanes (air_events r call) rear (air_calm place r call t h.0)
    (calm place (lanes_after r.lanes (air_events r call)) (after_one network_step given r.networks) given))
    (throughout place (radio_step r call) calls (step_told r call t) h.1)

pub radio_fair : IsBounded → IsFair
radio_fair law r past calls b c limit_b limit_c debts told within_b within_c has =
    let now : Radio = radio_after r past in
    let before : List LaneEvent = lane_events r past in
    let events : List LaneEvent = lane_events now calls in
    let apart = lane_events-append r past calls in
    let rule = by_the_rule r past in
    let Within : (place limit : ℕ) → List LaneEvent → Type 0 = λ place limit es. IsWithin place limit r.lanes 0 es in
    let Waiting : List Lane → Type 0 = λ lanes. WaitsThroughout b lanes events in
    let Bound : List Lane → Type 0 = λ lanes.
    scale_at r c * air_of c lanes events ≤ scale_at r b * (air_of b lanes events + limit_b) + scale_at r c * limit_c in
    subst Bound (sym rule) (law r.lanes before events b c limit_b limit_c debts
    (subst (Within b limit_b) apart within_b) (subst (Within c limit_c) apart within_c)
    (subst Waiting rule (throughout b now calls (stays_told r past told) has)))

pub radio_prompt : IsSoon → IsPrompt
radio_prompt law r past calls b c limit_b limit_c debts told within_b within_c has passed =
    let now : Radio = radio_after r past in
    let before : List LaneEvent = lane_events r past in
    let events : List LaneEvent = lane_events now calls in
    let apart = lane_events-append r past calls in
    let rule = by_the_rule r past in
    let Within : (place limit : ℕ) → List LaneEvent → Type 0 = λ place limit es. IsWithin place limit r.lanes 0 es in
    let Waiting : List Lane → Type 0 = λ lanes. WaitsThroughout b lanes events in
    let Passed : List Lane → Type 0 = λ lanes. IsPassedOver b lanes events in
    let Bound : List Lane → Type 0 = λ lanes.
    scale_at r c * air_of c lanes events ≤ scale_at r b * limit_b + scale_at r c * limit_c in
    subst Bound (sym rule) (law r.lanes before events b c limit_b limit_c debts
    (subst (Within b limit_b) apart within_b) (subst (Within c limit_c) apart within_c)
    (subst Waiting rule (throughout b now calls (stays_told r past told) has)) (subst Passed rule passed))
