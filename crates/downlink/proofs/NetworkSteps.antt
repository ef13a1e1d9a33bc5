-- What calls make of a network.
use Rattle.std.proofs.Common.{◌≡◌, ◌<◌, ℕ, ◌++◌, List, [], ◌∷◌, length, get_or, set, Option, Some, None, refl, sym, ap, ◌∙◌, inl, inr}
use Rattle.std.specs.Prelude.{slice_get}
use Rattle.std.specs.Option.{option_map, option_and_then, option_to_list}
use Rattle.std.proofs.lemmas.Option.{slice_get_read}
use Rattle.downlink.specs.declared.answer.Answer.{Answer}
use Rattle.downlink.specs.Receiver.{Queue}
use Rattle.downlink.specs.Calls.{Call, Turn, step, answer, after, answers}
use Rattle.downlink.specs.Parts.{put_at, after_one, answer_of_one, own_answers}
use Rattle.downlink.specs.Networks.{Network, To, TurnOfOne, turn_of, goes_to, from_after, network_step, network_answer, receiver_answer}
use Rattle.downlink.specs.Networks.{network_answers, calls_to}
use Rattle.downlink.specs.NetworkLaws.{IsReceiverAlone}
use Rattle.downlink.proofs.Parts.{own_step, own_answers-append}

-- ---- a call of a receiver by its place

pub named_step : (n : Network) (receiver : ℕ) (call : Call) (q q' : Queue) → receiver < length n.receivers
    → q ≡ get_or n.receivers receiver q → q' ≡ step q call
    → record { receivers = set n.receivers receiver q'; from = n.from; is_paused = n.is_paused } ≡ network_step n (To receiver call)
named_step n receiver call q q' within read s =
    let there : slice_get n.receivers receiver ≡ Some q = slice_get_read n.receivers (length n.receivers) receiver q refl within read in
    let whole : List Queue → Network = λ receivers. record { receivers = receivers; from = n.from; is_paused = n.is_paused } in
    ap whole (ap (set n.receivers receiver) s ∙ ap (put_at (λ x. step x call) receiver n.receivers) (sym there))

same_told : (receiver : ℕ) (told : Option Answer)
    → option_map (λ a. receiver_answer (receiver, a)) told ≡ option_map receiver_answer (option_map (λ a. (receiver, a)) told)
same_told receiver None = refl
same_told receiver (Some told) = refl

pub named_answer : (n : Network) (receiver : ℕ) (call : Call) (q : Queue) (told : Option Answer) → receiver < length n.receivers
    → q ≡ get_or n.receivers receiver q → told ≡ answer q call
    → option_map (λ a. receiver_answer (receiver, a)) told ≡ option_map receiver_answer (network_answer n (To receiver call))
named_answer n receiver call q told within read e =
    let there : slice_get n.receivers receiver ≡ Some q = slice_get_read n.receivers (length n.receivers) receiver q refl within read in
    same_told receiver told
    ∙ ap (λ o. option_map receiver_answer (option_map (λ a. (receiver, a)) o)) e
    ∙ ap (λ found. option_map receiver_answer (option_map (λ a. (receiver, a)) (option_and_then (λ x. answer x call) found))) (sym there)

-- ---- a turn

-- what a turn makes of a network, where it is this receiver's
abbrev after_turn_of : (now : ℕ) → Network → Option ℕ → Network
after_turn_of now n turn =
    let given = option_map (λ receiver. (receiver, Turn now)) turn in
    record { receivers = after_one step given n.receivers; from = from_after n.from (answer_of_one answer given n.receivers); is_paused = n.is_paused }

pub turned : (n : Network) (receiver now : ℕ) (q q' : Queue) (next : Option Answer) → Some receiver ≡ turn_of n
    → receiver < length n.receivers → q ≡ get_or n.receivers receiver q → q' ≡ step q (Turn now)
    → next ≡ answer q (Turn now)
    → (record { receivers = set n.receivers receiver q'; from = from_after n.from (option_map (λ a. (receiver, a)) next); is_paused = n.is_paused }
    ≡ network_step n (TurnOfOne now))
    × (option_map (λ a. receiver_answer (receiver, a)) next ≡ option_map receiver_answer (network_answer n (TurnOfOne now)))
turned n receiver now q q' next e within r s a =
    let there : slice_get n.receivers receiver ≡ Some q = slice_get_read n.receivers (length n.receivers) receiver q refl within r in
    let said : Option Queue → Option (ℕ × Answer) = λ old. option_map (λ x. (receiver, x)) (option_and_then (λ x. answer x (Turn now)) old) in
    let left : Network =
    record { receivers = set n.receivers receiver q'; from = from_after n.from (option_map (λ x. (receiver, x)) next); is_paused = n.is_paused } in
    let mid : Network =
    record { receivers = set n.receivers receiver (step q (Turn now)); from = from_after n.from (said (Some q)); is_paused = n.is_paused } in
    let first : left ≡ mid =
    ap (λ (x : Queue). let it : Network = record { receivers = set n.receivers receiver x; from = from_after n.from (option_map (λ y. (receiver, y)) next); is_paused = n.is_paused } in it) s
    ∙ ap (λ (x : Option Answer). let it : Network = record { receivers = set n.receivers receiver (step q (Turn now)); from = from_after n.from (option_map (λ y. (receiver, y)) x); is_paused = n.is_paused } in it) a in
    let second : mid ≡ after_turn_of now n (Some receiver) =
    ap (λ (x : Option Queue). let it : Network = record { receivers = put_at (λ y. step y (Turn now)) receiver n.receivers x; from = from_after n.from (said x); is_paused = n.is_paused } in it) (sym there) in (
      first ∙ second ∙ ap (after_turn_of now n) e,
      same_told receiver next ∙ ap (λ o. option_map receiver_answer (option_map (λ x. (receiver, x)) o)) a
          ∙ ap (λ o. option_map receiver_answer (said o)) (sym there)
          ∙ ap (λ t. option_map receiver_answer (answer_of_one answer (option_map (λ x. (x, Turn now)) t) n.receivers)) e,
    )

-- ---- a receiver's part

pub receiver_alone : IsReceiverAlone
receiver_alone n [] receiver q e = (e, refl)
receiver_alone n (call ∷ calls) receiver q e =
    let later : Network = network_step n call in
    let own : List Call = calls_to receiver later calls in
    let told : List (ℕ × Answer) = network_answers later calls in
    let apart = own_answers-append receiver (option_to_list (network_answer n call)) told in
    elim (own_step step answer (goes_to n call) n.receivers receiver q e) [
      | inl h ↦
          let rest = receiver_alone later calls receiver q h.1 in (
            rest.0 ∙ ap (λ front. Some (after q (front ++ own))) (sym h.0),
            apart ∙ ap (λ front. front ++ own_answers receiver told) h.2 ∙ rest.1
                ∙ ap (λ front. answers q (front ++ own)) (sym h.0),
          )
      | inr h ↦
          let rest = receiver_alone later calls receiver (step q h.0) h.2 in (
            rest.0 ∙ ap (λ front. Some (after q (front ++ own))) (sym h.1),
            apart ∙ ap (λ front. front ++ own_answers receiver told) h.3
                ∙ ap (λ rear. option_to_list (answer q h.0) ++ rear) rest.1
                ∙ ap (λ front. answers q (front ++ own)) (sym h.1),
          )
    ]
