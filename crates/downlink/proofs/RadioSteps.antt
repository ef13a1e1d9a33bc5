-- What calls make of a radio's queue.
use Rattle.std.proofs.Common.{◌≡◌, ◌<◌, ◌≤◌, ◌↔◌, ℕ, zero, suc, Bool, true, false, List, [], ◌∷◌, ◌++◌, length, get_or, set, Option, Some, None, is_some, Ok}
use Rattle.std.proofs.Common.{MatchOption, IsErrOf, refl, sym, ap, ◌∙◌, subst, inl, inr, arith}
use Rattle.std.specs.Prelude.{slice_get, IfSome, if◌then◌else◌}
use Rattle.std.specs.Option.{option_map, option_and_then}
use Rattle.std.proofs.lemmas.Bool.{cases_lt, false≢true, eqb-true}
use Rattle.std.proofs.lemmas.List.{get_or_past}
use Rattle.std.proofs.lemmas.Option.{slice_get_read, slice_get_past, slice_get-get_or, none-some}
use Rattle.air_share.specs.declared.lane.Lane.{Lane}
use Rattle.air_share.specs.Lanes.{chosen, lane_at, no_lane, IsChoice}
use Rattle.air_share.specs.LaneRuns.{Waits, lane_step, lanes_after, is_turn_of}
use Rattle.downlink.specs.declared.answer.Answer.{Answer}
use Rattle.downlink.specs.declared.network_queue.ReceiverAnswer.{ReceiverAnswer}
use Rattle.downlink.specs.Receiver.{new_queue, is_sending}
use Rattle.downlink.specs.Parts.{put_at, after_one, answer_of_one}
use Rattle.downlink.specs.Calls.{Turn}
use Rattle.downlink.specs.Networks.{Network, NetworkCall, To, TurnOfOne, has_next, network_step, network_answer, receiver_answer}
use Rattle.downlink.specs.Radios.{Radio, Next, NextOf, receiver_at, is_sent, turn_if, waits_now, waits_after, radio_step, radio_answer}
use Rattle.downlink.specs.Radios.{answer_from, network_answer_of}
use Rattle.downlink.proofs.Parts.{set_there}

-- ---- a call of a network by its place

-- a radio after a call of the network at a place
abbrev pub after_named : Radio → (place : ℕ) → NetworkCall → Radio
after_named r place call =
    let networks = put_at (λ n. network_step n call) place r.networks (slice_get r.networks place) in
    record { lanes = lanes_after r.lanes (waits_now place (slice_get networks place)); networks = networks }

pub named_step : (r : Radio) (place : ℕ) (n n' : Network) (call : NetworkCall) (lanes' : List Lane)
    → place < length r.networks → n ≡ get_or r.networks place n → n' ≡ network_step n call
    → lanes' ≡ lane_step r.lanes (Waits place (has_next n'))
    → record { lanes = lanes'; networks = set r.networks place n' } ≡ after_named r place call
named_step r place n n' call lanes' within read s l =
    let there : slice_get r.networks place ≡ Some n = slice_get_read r.networks (length r.networks) place n refl within read in
    let whole : List Network → Radio =
    λ networks. record { lanes = lanes_after r.lanes (waits_now place (slice_get networks place)); networks = networks } in
    let with_lanes : List Lane → Radio = λ lanes. record { lanes = lanes; networks = set r.networks place n' } in
    let here : slice_get (set r.networks place n') place ≡ Some n' = set_there r.networks place n n' there in
    ap with_lanes (l ∙ ap (λ found. lanes_after r.lanes (waits_now place found)) (sym here))
    ∙ ap whole (ap (set r.networks place) s ∙ ap (put_at (λ x. network_step x call) place r.networks) (sym there))

same_told : (place : ℕ) (told : Option (ℕ × Answer))
    → option_map (answer_from place) (option_map receiver_answer told) ≡ option_map network_answer_of (option_map (λ a. (place, a)) told)
same_told place None = refl
same_told place (Some told) = refl

pub named_answer : (r : Radio) (place : ℕ) (n : Network) (call : NetworkCall) (told : Option ReceiverAnswer)
    → place < length r.networks → n ≡ get_or r.networks place n → told ≡ option_map receiver_answer (network_answer n call)
    → option_map (answer_from place) told
    ≡ option_map network_answer_of (answer_of_one network_answer (Some (place, call)) r.networks)
named_answer r place n call told within read e =
    let there : slice_get r.networks place ≡ Some n = slice_get_read r.networks (length r.networks) place n refl within read in
    ap (option_map (answer_from place)) e ∙ same_told place (network_answer n call)
    ∙ ap (λ found. option_map network_answer_of (option_map (λ a. (place, a)) (option_and_then (λ x. network_answer x call) found)))
    (sym there)

-- ---- a turn

sent_told : (place : ℕ) (told : Option (ℕ × Answer)) (sent : Bool)
    → MatchOption (option_map receiver_answer told) (sent ≡ false) (λ t. sent ≡ is_sending t.answer.fate)
    → sent ≡ is_sent (option_map (λ a. (place, a)) told)
sent_told place None sent h = h
sent_told place (Some told) sent h = h

-- a radio after a turn, where it goes so
abbrev after_given : Radio → Option (ℕ × NetworkCall) → Radio
after_given r given =
    let networks = after_one network_step given r.networks in
    record {
      lanes = lanes_after r.lanes (turn_if (is_sent (answer_of_one network_answer given r.networks)) ++ waits_after networks given);
      networks = networks;
    }

given_step : (r : Radio) (place : ℕ) (call : NetworkCall) (n n' : Network) (told : Option ReceiverAnswer) (sent : Bool) (lanes' : List Lane)
    → place < length r.networks → n ≡ get_or r.networks place n
    → n' ≡ network_step n call → told ≡ option_map receiver_answer (network_answer n call)
    → MatchOption told (sent ≡ false) (λ t. sent ≡ is_sending t.answer.fate)
    → lanes' ≡ lanes_after r.lanes (turn_if sent ++ Waits place (has_next n') ∷ [])
    → record { lanes = lanes'; networks = set r.networks place n' } ≡ after_given r (Some (place, call))
given_step r place call n n' told sent lanes' within read s a m l =
    let there : slice_get r.networks place ≡ Some n = slice_get_read r.networks (length r.networks) place n refl within read in
    let here : slice_get (set r.networks place n') place ≡ Some n' = set_there r.networks place n n' there in
    let said : Option (ℕ × Answer) = network_answer n call in
    let matched : Option ReceiverAnswer → Type 0 = λ t. MatchOption t (sent ≡ false) (λ x. sent ≡ is_sending x.answer.fate) in
    let same : sent ≡ is_sent (option_map (λ x. (place, x)) said) = sent_told place said sent (subst matched a m) in
    let with_lanes : List Lane → Radio = λ lanes. record { lanes = lanes; networks = set r.networks place n' } in
    let whole : List Network → Radio = λ networks. record {
      lanes = lanes_after r.lanes (turn_if (is_sent (option_map (λ x. (place, x)) said)) ++ waits_now place (slice_get networks place));
      networks = networks;
    } in
    let found : Option Network → Radio = λ old. (
    let networks = put_at (λ x. network_step x call) place r.networks old in
    record {
      lanes = lanes_after r.lanes (turn_if (is_sent (option_map (λ x. (place, x)) (option_and_then (λ x. network_answer x call) old))) ++ waits_now place (slice_get networks place));
      networks = networks;
    }
    ) in
    ap with_lanes (l ∙ ap (λ b. lanes_after r.lanes (turn_if b ++ Waits place (has_next n') ∷ [])) same
    ∙ ap (λ old. lanes_after r.lanes (turn_if (is_sent (option_map (λ x. (place, x)) said)) ++ waits_now place old)) (sym here))
    ∙ ap whole (ap (set r.networks place) s) ∙ ap found (sym there)

pub next_step : (r : Radio) (place now : ℕ) (n n' : Network) (told : Option ReceiverAnswer) (sent : Bool) (lanes' : List Lane)
    → Some place ≡ chosen r.lanes → place < length r.networks → n ≡ get_or r.networks place n
    → n' ≡ network_step n (TurnOfOne now) → told ≡ option_map receiver_answer (network_answer n (TurnOfOne now))
    → MatchOption told (sent ≡ false) (λ t. sent ≡ is_sending t.answer.fate)
    → lanes' ≡ lanes_after r.lanes (turn_if sent ++ Waits place (has_next n') ∷ [])
    → record { lanes = lanes'; networks = set r.networks place n' } ≡ radio_step r (Next now)
next_step r place now n n' told sent lanes' e within read s a m l =
    given_step r place (TurnOfOne now) n n' told sent lanes' within read s a m l
    ∙ ap (λ turn. after_given r (option_map (λ p. (p, TurnOfOne now)) turn)) e

pub next_answer : (r : Radio) (place now : ℕ) (n : Network) (told : Option ReceiverAnswer) → Some place ≡ chosen r.lanes
    → place < length r.networks → n ≡ get_or r.networks place n
    → told ≡ option_map receiver_answer (network_answer n (TurnOfOne now))
    → option_map (answer_from place) told ≡ option_map network_answer_of (radio_answer r (Next now))
next_answer r place now n told e within read a =
    named_answer r place n (TurnOfOne now) told within read a
    ∙ ap (λ turn. option_map network_answer_of (answer_of_one network_answer (option_map (λ p. (p, TurnOfOne now)) turn) r.networks)) e

-- ---- a turn of a network and a receiver that the caller names

-- where the turn is that of the network at the place, or isn't
abbrev given_if : (place receiver now : ℕ) → Bool → Option (ℕ × NetworkCall)
given_if place receiver now is_chosen = if is_chosen then Some (place, To receiver (Turn now)) else None

pub next_of_step : (r : Radio) (place receiver now : ℕ) (n n' : Network) (told : Option ReceiverAnswer) (sent : Bool) (lanes' : List Lane)
    → is_turn_of place (chosen r.lanes) ≡ true → place < length r.networks → n ≡ get_or r.networks place n
    → n' ≡ network_step n (To receiver (Turn now)) → told ≡ option_map receiver_answer (network_answer n (To receiver (Turn now)))
    → MatchOption told (sent ≡ false) (λ t. sent ≡ is_sending t.answer.fate)
    → lanes' ≡ lanes_after r.lanes (turn_if sent ++ Waits place (has_next n') ∷ [])
    → record { lanes = lanes'; networks = set r.networks place n' } ≡ radio_step r (NextOf place receiver now)
next_of_step r place receiver now n n' told sent lanes' e within read s a m l =
    given_step r place (To receiver (Turn now)) n n' told sent lanes' within read s a m l
    ∙ ap (λ b. after_given r (given_if place receiver now b)) (sym e)

pub next_of_answer : (r : Radio) (place receiver now : ℕ) (n : Network) (told : Option ReceiverAnswer)
    → is_turn_of place (chosen r.lanes) ≡ true → place < length r.networks → n ≡ get_or r.networks place n
    → told ≡ option_map receiver_answer (network_answer n (To receiver (Turn now)))
    → option_map (answer_from place) told ≡ option_map network_answer_of (radio_answer r (NextOf place receiver now))
next_of_answer r place receiver now n told e within read a =
    named_answer r place n (To receiver (Turn now)) told within read a
    ∙ ap (λ b. option_map network_answer_of (answer_of_one network_answer (given_if place receiver now b) r.networks)) (sym e)

turn_is : (place : ℕ) (turn : Option ℕ) → is_turn_of place turn ≡ true → turn ≡ Some place
turn_is place None e = absurd (false≢true e)
turn_is place (Some other) e = ap Some (eqb-true other place e)

-- ---- whether a receiver is there

none_past : {X : Type 0} (xs : List X) (place : ℕ) → slice_get xs place ≡ None → length xs ≤ place
none_past [] place e = omega arith
none_past (x ∷ xs) zero e = absurd (none-some x (sym e))
none_past (x ∷ xs) (suc place) e = omega (arith, none_past xs place e)

found_receiver : (r : Radio) (place receiver : ℕ) (n : Network) → place < length r.networks
    → n ≡ get_or r.networks place n → receiver_at r place receiver ≡ slice_get n.receivers receiver
found_receiver r place receiver n within read =
    ap (option_and_then (λ x. slice_get x.receivers receiver))
    (slice_get_read r.networks (length r.networks) place n refl within read)

pub missing : (r : Radio) (place receiver : ℕ) (n : Network) → place < length r.networks → n ≡ get_or r.networks place n
    → receiver_at r place receiver ≡ None → length n.receivers ≤ receiver
missing r place receiver n within read e =
    none_past n.receivers receiver (sym (found_receiver r place receiver n within read) ∙ e)

pub present : (r : Radio) (place receiver : ℕ) (n : Network) → place < length r.networks → n ≡ get_or r.networks place n
    → (receiver < length n.receivers) ↔ (is_some (receiver_at r place receiver) ≡ true)
present r place receiver n within read =
    let found = found_receiver r place receiver n within read in (
      λ (l : receiver < length n.receivers). ap is_some (found ∙ slice_get-get_or n.receivers receiver (new_queue 0) l),
      λ (h : is_some (receiver_at r place receiver) ≡ true). elim (cases_lt receiver (length n.receivers)) [
        | inl l ↦ l
        | inr past ↦ absurd (false≢true (sym (ap is_some (found ∙ slice_get_past n.receivers receiver past)) ∙ h))
      ],
    )

pub not_err : {T E : Type 0} (x : T) (fault : E) → IsErrOf {T = T} {E = E} (Ok x) fault → ⊥
not_err x fault h = cc

-- ---- the network whose turn it is

pub waits_there : (lanes : List Lane) (place : ℕ) → (lane_at lanes place).waits ≡ true → place < length lanes
waits_there lanes place h =
    elim (cases_lt place (length lanes)) [
      | inl l ↦ l
      | inr past ↦ absurd (false≢true (ap (λ lane. lane.waits) (sym (get_or_past lanes place no_lane past)) ∙ h))
    ]

-- where the turn is that of the network at a place, that is there
pub turn_there : (lanes : List Lane) (place : ℕ) (turn : Option ℕ) → is_turn_of place turn ≡ true → IfSome turn (IsChoice lanes)
    → place < length lanes
turn_there lanes place turn e some =
    let chosen_there : IsChoice lanes place = subst (λ (t : Option ℕ). IfSome t (IsChoice lanes)) (turn_is place turn e) some in
    waits_there lanes place chosen_there.waits
