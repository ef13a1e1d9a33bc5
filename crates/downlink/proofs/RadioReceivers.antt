-- What becomes of the frames of each receiver of a radio's networks.
use Rattle.std.proofs.Common.{◌≡◌, ◌≤◌, ◌+◌, ℕ, suc, Bool, true, false, List, [], ◌∷◌, ◌++◌, length, map, Option, Some, None, refl, sym, ap, ◌∙◌}
use Rattle.std.proofs.Common.{subst, append_assoc, append-nil, arith}
use Rattle.std.specs.Prelude.{nat_eq, slice_get, if◌then◌else◌}
use Rattle.std.specs.List.{sum}
use Rattle.std.specs.Option.{option_map, option_and_then}
use Rattle.std.proofs.lemmas.Option.{none-some, same_Some, slice_get-map}
use Rattle.std.proofs.lemmas.List.Sums.{sum_by-cons}
use Rattle.std.proofs.lemmas.List.{length-set, length-map}
use Rattle.downlink.specs.declared.answer.Answer.{Answer}
use Rattle.air_share.specs.Lanes.{chosen}
use Rattle.air_share.specs.LaneRuns.{is_turn_of}
use Rattle.downlink.specs.Receiver.{Queue, new_queue}
use Rattle.downlink.specs.Calls.{Call, Comes, Turn, Told, Returns, GivesUp, Joins, Leaves, Dozes, Settles, Wakes, Polls}
use Rattle.downlink.specs.Calls.{step, after, answers}
use Rattle.downlink.specs.Laws.{one_if, count, held, brings, is_gone, goes_first, goes_again, waits_again, tells, IsWithin}
use Rattle.downlink.specs.Laws.{came_by, came, went, is_new_unit, answers_on_their_way}
use Rattle.downlink.specs.Parts.{put_at, after_one, own_call, own_answers}
use Rattle.downlink.specs.Networks.{Network, new_network, NetworkCall, To, TurnOfOne, Pauses as NetworkPauses, turn_of, goes_to}
use Rattle.downlink.specs.Networks.{network_step, network_after, calls_to}
use Rattle.downlink.specs.Radios.{Radio, RadioCall, Of, Next, NextOf, Pauses, Used, receiver_at, goes_to_network, radio_step}
use Rattle.downlink.specs.Radios.{radio_after, radio_answers, own_calls}
use Rattle.downlink.specs.RadioReceivers.{answers_to, calls_in, calls_at, came_for_by, came_at_by, came_at, IsReceiverAloneInRadio}
use Rattle.downlink.specs.RadioReceivers.{LosesNothing, MakesNothingUp, DoublesNothing, KeepsOrder, LetsSleep, AnswersPollsInTurn}
use Rattle.downlink.specs.RadioReceivers.{frames_waiting, HoldsFew}
use Rattle.downlink.proofs.Asleep.{goes_by_polls}
use Rattle.downlink.proofs.OneAnswer.{answers_one_at_a_time}
use Rattle.downlink.proofs.Bounds.{is_bounded}
use Rattle.downlink.proofs.Conserved.{is_conserved}
use Rattle.downlink.proofs.Counts.{count-append}
use Rattle.downlink.proofs.InOrder.{is_in_order}
use Rattle.downlink.proofs.MadeUp.{is_not_made_up}
use Rattle.downlink.proofs.Twice.{at_most_twice}
use Rattle.downlink.proofs.Parts.{set_there}
use Rattle.downlink.proofs.NetworkSteps.{receiver_alone}
use Rattle.downlink.proofs.RadioRuns.{radio_alone}

-- ---- the tickets that come

came-append : (xs ys : List Call) → came (xs ++ ys) ≡ came xs ++ came ys
came-append [] ys = refl
came-append (x ∷ xs) ys =
    ap (λ rear. came_by x ++ rear) (came-append xs ys) ∙ sym (append_assoc (came_by x) (came xs) (came ys))

came_for : (receiver : ℕ) → List NetworkCall → List ℕ
came_for receiver [] = []
came_for receiver (call ∷ calls) = came_for_by receiver call ++ came_for receiver calls

came_for-append : (receiver : ℕ) (xs ys : List NetworkCall) → came_for receiver (xs ++ ys) ≡ came_for receiver xs ++ came_for receiver ys
unfolding came_for
came_for-append receiver [] ys = refl
came_for-append receiver (x ∷ xs) ys =
    ap (λ rear. came_for_by receiver x ++ rear) (came_for-append receiver xs ys)
    ∙ sym (append_assoc (came_for_by receiver x) (came_for receiver xs) (came_for receiver ys))

turn_brings_none : (receiver now : ℕ) (turn : Option ℕ) → came (own_call receiver (option_map (λ x. (x, Turn now)) turn)) ≡ []
turn_brings_none receiver now None = refl
turn_brings_none receiver now (Some x) =
    elim (nat_eq x receiver) as (λ b. came (if b then Turn now ∷ [] else []) ≡ []) [ true ↦ refl | false ↦ refl ]

came_one : (receiver : ℕ) (n : Network) (call : NetworkCall) → came (own_call receiver (goes_to n call)) ≡ came_for_by receiver call
came_one receiver n (To other call) =
    elim (nat_eq other receiver) as (λ b. came (if b then call ∷ [] else []) ≡ (if b then came_by call else []))
    [ true ↦ append-nil (came_by call) | false ↦ refl ]
came_one receiver n (TurnOfOne now) = turn_brings_none receiver now (turn_of n)
came_one receiver n (NetworkPauses is_paused) = refl

came_to : (receiver : ℕ) (n : Network) (calls : List NetworkCall) → came (calls_to receiver n calls) ≡ came_for receiver calls
unfolding came_for
came_to receiver n [] = refl
came_to receiver n (call ∷ calls) =
    came-append (own_call receiver (goes_to n call)) (calls_to receiver (network_step n call) calls)
    ∙ ap (λ front. front ++ came (calls_to receiver (network_step n call) calls)) (came_one receiver n call)
    ∙ ap (λ rear. came_for_by receiver call ++ rear) (came_to receiver (network_step n call) calls)

next_brings_none : (place receiver now : ℕ) (turn : Option ℕ)
    → came_for receiver (own_call place (option_map (λ x. (x, TurnOfOne now)) turn)) ≡ []
unfolding came_for
next_brings_none place receiver now None = refl
next_brings_none place receiver now (Some x) =
    elim (nat_eq x place) as (λ b. came_for receiver (if b then TurnOfOne now ∷ [] else []) ≡ []) [ true ↦ refl | false ↦ refl ]

named_turn_brings_none : (place receiver other whom now : ℕ) (is_chosen : Bool)
    → came_for receiver (own_call place (if is_chosen then Some (other, To whom (Turn now)) else None)) ≡ []
unfolding came_for
named_turn_brings_none place receiver other whom now false = refl
named_turn_brings_none place receiver other whom now true =
    elim (nat_eq other place) as (λ b. came_for receiver (if b then To whom (Turn now) ∷ [] else []) ≡ []) [
      | true ↦ elim (nat_eq whom receiver) as (λ b. (if b then came_by (Turn now) else []) ++ [] ≡ []) [ true ↦ refl | false ↦ refl ]
      | false ↦ refl
    ]

pause_brings_none : (place receiver other : ℕ) (is_paused : Bool)
    → came_for receiver (own_call place (Some (other, NetworkPauses is_paused))) ≡ []
unfolding came_for
pause_brings_none place receiver other is_paused =
    elim (nat_eq other place) as (λ b. came_for receiver (if b then NetworkPauses is_paused ∷ [] else []) ≡ []) [ true ↦ refl | false ↦ refl ]

named_one : (place receiver : ℕ) (r : Radio) (call : RadioCall)
    → came_for receiver (own_call place (goes_to_network r call)) ≡ came_at_by place receiver call
unfolding came_for
named_one place receiver r (Of other whom call) =
    elim (nat_eq other place) as (λ b. came_for receiver (if b then To whom call ∷ [] else [])
    ≡ (if b then came_for_by receiver (To whom call) else []))
    [ true ↦ append-nil (came_for_by receiver (To whom call)) | false ↦ refl ]
named_one place receiver r (Next now) = next_brings_none place receiver now (chosen r.lanes)
named_one place receiver r (NextOf other whom now) =
    named_turn_brings_none place receiver other whom now (is_turn_of other (chosen r.lanes))
named_one place receiver r (Pauses other is_paused) = pause_brings_none place receiver other is_paused
named_one place receiver r (Used other units) = refl

came_named : (place receiver : ℕ) (r : Radio) (calls : List RadioCall)
    → came_for receiver (own_calls place r calls) ≡ came_at place receiver calls
unfolding came_for
came_named place receiver r [] = refl
came_named place receiver r (call ∷ calls) =
    came_for-append receiver (own_call place (goes_to_network r call)) (own_calls place (radio_step r call) calls)
    ∙ ap (λ front. front ++ came_for receiver (own_calls place (radio_step r call) calls)) (named_one place receiver r call)
    ∙ ap (λ rear. came_at_by place receiver call ++ rear) (came_named place receiver (radio_step r call) calls)

-- ---- a receiver alone

in_found : (r : Radio) (calls : List RadioCall) (place receiver : ℕ) (q : Queue) (found : Option Network)
    → slice_get r.networks place ≡ found → option_and_then (λ n. slice_get n.receivers receiver) found ≡ Some q
    → (receiver_at (radio_after r calls) place receiver ≡ Some (after q (calls_in receiver found (own_calls place r calls))))
    × (answers_to place receiver (radio_answers r calls) ≡ answers q (calls_in receiver found (own_calls place r calls)))
    × (came (calls_in receiver found (own_calls place r calls)) ≡ came_at place receiver calls)
in_found r calls place receiver q None s e = absurd (none-some q e)
in_found r calls place receiver q (Some n) s e =
    let own : List NetworkCall = own_calls place r calls in
    let network = radio_alone r calls place n s in
    let one = receiver_alone n own receiver q e in (
      ap (option_and_then (λ x. slice_get x.receivers receiver)) network.0 ∙ one.0,
      ap (own_answers receiver) network.1 ∙ one.1,
      came_to receiver n own ∙ came_named place receiver r calls,
    )

pub receiver_alone_in_radio : IsReceiverAloneInRadio
receiver_alone_in_radio r calls place receiver q e = in_found r calls place receiver q (slice_get r.networks place) refl e

-- ---- nothing vanishes, is made up or doubled

brought : (p : ℕ → Bool) (call : Call) → one_if (brings p call) ≡ count p (came_by call)
brought p (Comes ticket is_unit until now) = omega arith
brought p (Turn now) = refl
brought p (Told ticket is_acknowledged) = refl
brought p Returns = refl
brought p GivesUp = refl
brought p Joins = refl
brought p Leaves = refl
brought p Dozes = refl
brought p Settles = refl
brought p Wakes = refl
brought p (Polls until) = refl

all_brought : (p : ℕ → Bool) (calls : List Call) → count (brings p) calls ≡ count p (came calls)
all_brought p [] = refl
all_brought p (call ∷ calls) = omega (arith, brought p call, all_brought p calls, count-append p (came_by call) (came calls))

pub loses_nothing : LosesNothing
loses_nothing p r calls place receiver q later e l =
    let own : List Call = calls_at place receiver r calls in
    let alone = receiver_alone_in_radio r calls place receiver q e in
    let same : after q own ≡ later = same_Some (after q own) later (sym alone.0 ∙ l) in
    let law = is_conserved p q own in
    ap (λ k. held p q + k) (sym (all_brought p own ∙ ap (count p) alone.2)) ∙ law
    ∙ ap (λ x. held p x + count (tells is_gone p) (answers q own)) same
    ∙ ap (λ said. held p later + count (tells is_gone p) said) (sym alone.1)

pub makes_nothing_up : MakesNothingUp
makes_nothing_up p r calls place receiver most e =
    let own : List Call = calls_at place receiver r calls in
    let alone = receiver_alone_in_radio r calls place receiver (new_queue most) e in
    let Few : ℕ → ℕ → Type 0 = λ went came. went ≤ came in
    subst (Few (count (tells goes_first p) (answers_to place receiver (radio_answers r calls)))) (all_brought p own ∙ ap (count p) alone.2)
    (let Said : ℕ → Type 0 = λ went. went ≤ count (brings p) own in
    subst Said (ap (count (tells goes_first p)) (sym alone.1)) (is_not_made_up p most own))

pub doubles_nothing : DoublesNothing
doubles_nothing p r calls place receiver most e =
    let own : List Call = calls_at place receiver r calls in
    let alone = receiver_alone_in_radio r calls place receiver (new_queue most) e in
    let law = at_most_twice p most own in
    let again = ap (count (tells goes_again p)) alone.1 in
    let waits = ap (count (tells waits_again p)) alone.1 in
    let first = ap (count (tells goes_first p)) alone.1 in
    (omega (arith, law.0, again, waits), omega (arith, law.1, waits, first))

-- ---- order

pub keeps_order : KeepsOrder
keeps_order r calls place receiver most e =
    let own : List Call = calls_at place receiver r calls in
    let alone = receiver_alone_in_radio r calls place receiver (new_queue most) e in
    let Came : List ℕ → Type 0 = λ tickets. IsWithin (went (answers_to place receiver (radio_answers r calls))) tickets in
    let Said : List Answer → Type 0 = λ said. IsWithin (went said) (came own) in
    subst Came alone.2 (subst Said (sym alone.1) (is_in_order most own))

-- ---- sleep

named_in : (r : Radio) (place receiver : ℕ) (q : Queue) (call : Call) (found : Option Network)
    → slice_get r.networks place ≡ found → option_and_then (λ n. slice_get n.receivers receiver) found ≡ Some q
    → receiver_at (radio_step r (Of place receiver call)) place receiver ≡ Some (step q call)
named_in r place receiver q call None s e = absurd (none-some q e)
named_in r place receiver q call (Some n) s e =
    let later : Network = network_step n (To receiver call) in
    let here : List Network → Option Queue = λ networks. option_and_then (λ x. slice_get x.receivers receiver) (slice_get networks place) in
    ap (λ old. here (put_at (λ x. network_step x (To receiver call)) place r.networks old)) s
    ∙ ap (option_and_then (λ x. slice_get x.receivers receiver)) (set_there r.networks place n later s)
    ∙ ap (λ old. slice_get (put_at (λ x. step x call) receiver n.receivers old) receiver) e
    ∙ set_there n.receivers receiver q (step q call) e

pub lets_sleep : LetsSleep
lets_sleep r calls place receiver q e present asleep =
    let dozing : Radio = radio_step r (Of place receiver Dozes) in
    let own : List Call = calls_at place receiver dozing calls in
    let falls = named_in r place receiver q Dozes (slice_get r.networks place) refl e in
    let alone = receiver_alone_in_radio dozing calls place receiver (step q Dozes) falls in
    omega (arith, goes_by_polls q own present asleep, ap (count is_new_unit) alone.1)

pub answers_polls_in_turn : AnswersPollsInTurn
answers_polls_in_turn r calls place receiver most later e l =
    let own : List Call = calls_at place receiver r calls in
    let alone = receiver_alone_in_radio r calls place receiver (new_queue most) e in
    let Few : Queue → Type 0 = λ q. answers_on_their_way q ≤ 1 in
    subst Few (same_Some (after (new_queue most) own) later (sym alone.0 ∙ l)) (answers_one_at_a_time most own)

-- ---- bounds

pub few_in_sum : (qs : List Queue) (mosts : List ℕ) → length qs ≡ length mosts
    → ((place most : ℕ) (q : Queue) → slice_get mosts place ≡ Some most → slice_get qs place ≡ Some q → length q.waiting ≤ most)
    → sum (map (λ q. length q.waiting) qs) ≤ sum mosts
few_in_sum [] [] same h = omega arith
few_in_sum [] (most ∷ mosts) same h = absurd (omega arith)
few_in_sum (q ∷ qs) [] same h = absurd (omega arith)
few_in_sum (q ∷ qs) (most ∷ mosts) same h =
    let waiting : List ℕ = map (λ x. length x.waiting) qs in
    let first : sum (length q.waiting ∷ waiting) ≡ length q.waiting + sum waiting = sum_by-cons (λ k. k) (length q.waiting) waiting in
    let second : sum (most ∷ mosts) ≡ most + sum mosts = sum_by-cons (λ k. k) most mosts in
    let rest : sum waiting ≤ sum mosts = few_in_sum qs mosts (omega arith) (λ place m x a b. h (suc place) m x a b) in
    omega (arith, first, second, rest, h 0 most q refl refl)

length-put : {X : Type 0} (change : X → X) (place : ℕ) (xs : List X) (old : Option X) → length (put_at change place xs old) ≡ length xs
length-put change place xs None = refl
length-put change place xs (Some x) = length-set xs place (change x)

length-one : {X C : Type 0} (step : X → C → X) (given : Option (ℕ × C)) (xs : List X) → length (after_one step given xs) ≡ length xs
length-one step None xs = refl
length-one step (Some given) xs = length-put (λ x. step x given.1) given.0 xs (slice_get xs given.0)

as_many_receivers : (n : Network) (own : List NetworkCall) → length (network_after n own).receivers ≡ length n.receivers
as_many_receivers n [] = refl
as_many_receivers n (call ∷ own) = as_many_receivers (network_step n call) own ∙ length-one step (goes_to n call) n.receivers

few_alone : (mosts : List ℕ) (own : List NetworkCall) → frames_waiting (network_after (new_network mosts) own) ≤ sum mosts
few_alone mosts own =
    let new : Network = new_network mosts in
    few_in_sum (network_after new own).receivers mosts (as_many_receivers new own ∙ length-map mosts new_queue) (λ place most q a b.
    let began : slice_get new.receivers place ≡ Some (new_queue most) = slice_get-map new_queue mosts place ∙ ap (option_map new_queue) a in
    let alone = receiver_alone new own place (new_queue most) began in
    let calls : List Call = calls_to place new own in
    let same : after (new_queue most) calls ≡ q = same_Some (after (new_queue most) calls) q (sym alone.0 ∙ b) in
    let Few : Queue → Type 0 = λ x. length x.waiting ≤ most in
    subst Few same (is_bounded most calls))

pub holds_few : HoldsFew
holds_few r calls place mosts later e l =
    let own : List NetworkCall = own_calls place r calls in
    let alone = radio_alone r calls place (new_network mosts) e in
    let Few : Network → Type 0 = λ n. frames_waiting n ≤ sum mosts in
    subst Few (same_Some (network_after (new_network mosts) own) later (sym alone.0 ∙ l)) (few_alone mosts own)
