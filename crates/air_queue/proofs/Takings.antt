-- What the radio's pass has once the networks' passes were taken in, and that nothing remains once as many left as were
-- there.
use Rattle.std.proofs.Common.{◌≡◌, ℕ, zero, suc, ◌+◌, ◌<◌, ◌≤◌, List, [], ◌∷◌, ◌++◌, length, map, drop, get_or, Option, Some, None, refl, sym, ap, subst, ◌∙◌, inl, inr, arith}
use Rattle.std.specs.Prelude.{All, IsSome}
use Rattle.std.specs.List.{AllByRecursion, range_with_len}
use Rattle.std.specs.FinMap as finite
use Rattle.std.proofs.lemmas.Bool.{cases_eq, false≢true}
use Rattle.std.proofs.lemmas.List.{append-nil, length-append, nil_from_length}
use Rattle.crossbeam_queue.specs.Fifo.{Merges}
use Rattle.events.specs.Items.{items_of}
use Rattle.events.specs.declared.air_item.AirItem.{AirItem}
use Rattle.air_queue.specs.Passes.{TakenIn, NetPassView, HasEach}
use Rattle.air_queue.specs.Rule.{IsKept, IsNetworkAt, IsRadio, IsRadioWith, Accounts, AllTaken, left_of, networks_of, taken_in_of, taking_in, after_taking}
use Rattle.air_queue.specs.declared.known.Known.{Known}
use Rattle.air_queue.specs.declared.known.Known.TheVariants.{Radio, Spent}
use Rattle.air_queue.proofs.Counts.{same_count}
use Rattle.air_queue.proofs.Entries.{get-here, get-other}
use Rattle.air_queue.proofs.RuleSteps.{takes_in}

-- ---- kinds of pass

pub radio_is : (out : List AirItem) (v : Known) → IsRadioWith out v → v ≡ Radio out (networks_of v) (taken_in_of v)
radio_is out (Radio left networks taken_in) is = ap (λ l. Radio l networks taken_in) is
radio_is out v is = absurd is

pub radio_with : (v : Known) → IsRadio v → IsRadioWith (left_of v) v
radio_with (Radio left networks taken_in) is = refl
radio_with v is = absurd is

pub is_radio : (out : List AirItem) (v : Known) → IsRadioWith out v → IsRadio v
is_radio out v is = subst IsRadio (sym (radio_is out v is)) tt

-- a pass of the radio takes in one of a network
pub takes : (port : ℕ) (v : Known) (other place : ℕ) (u : Known) → IsRadio v → IsNetworkAt place u → Merges IsKept port v other u (taking_in v u) Spent
takes port v other place u is here = takes_in port (left_of v) v other place u (radio_with v is) here

-- ---- passes in order of place

-- what is there of each network once these passes were taken in
abbrev all_taken : TakenIn → List NetPassView → TakenIn
all_taken taken_in [] = taken_in
all_taken taken_in (pass ∷ passes) = all_taken (finite.insert taken_in pass.place pass.pushed) passes

after_taking-is : (left : List AirItem) (networks : ℕ) (taken_in : TakenIn) (passes : List NetPassView) → after_taking (Radio left networks taken_in) passes ≡ Radio left networks (all_taken taken_in passes)
after_taking-is left networks taken_in [] = refl
after_taking-is left networks taken_in (pass ∷ passes) = after_taking-is left networks (finite.insert taken_in pass.place pass.pushed) passes

abbrev Placed : ℕ → ℕ → List NetPassView → Type 0
Placed first count passes = map (λ pass. pass.place) passes ≡ range_with_len first count

record Next (first count : ℕ) (pass : NetPassView) (passes : List NetPassView) : Type 0 where
  fewer : ℕ
  one : count ≡ suc fewer
  here : pass.place ≡ first
  rest : Placed (first + 1) fewer passes

next_placed : (first count : ℕ) (pass : NetPassView) (passes : List NetPassView) → Placed first count (pass ∷ passes) → Next first count pass passes
next_placed first zero pass passes is = let h = ap length is in absurd (omega (arith, h))
next_placed first (suc count) pass passes is = record {
  fewer = count;
  one = refl;
  here = ap (λ l. get_or l 0 0) is;
  rest = ap (drop 1) is;
}

-- those that follow leave what was taken in of the places before
taken-before : (first count : ℕ) (passes : List NetPassView) (taken_in : TakenIn) (place : ℕ) → Placed first count passes → place < first → finite.get (all_taken taken_in passes) place ≡ finite.get taken_in place
taken-before first count [] taken_in place is lt = refl
taken-before first count (pass ∷ passes) taken_in place is lt =
    let n = next_placed first count pass passes is in
    let here = n.here in
    taken-before (first + 1) n.fewer passes (finite.insert taken_in pass.place pass.pushed) place n.rest (omega (arith, lt))
    ∙ get-other taken_in pass.place pass.pushed place (λ e. absurd (omega (arith, e, here, lt)))

taken-first : (first count : ℕ) (pass : NetPassView) (passes : List NetPassView) (taken_in : TakenIn) → Placed first count (pass ∷ passes) → finite.get (all_taken taken_in (pass ∷ passes)) pass.place ≡ Some pass.pushed
taken-first first count pass passes taken_in is =
    let n = next_placed first count pass passes is in
    let here = n.here in
    taken-before (first + 1) n.fewer passes (finite.insert taken_in pass.place pass.pushed) pass.place n.rest (omega (arith, here))
    ∙ get-here taken_in pass.place pass.pushed

taken-each : (first count : ℕ) (passes : List NetPassView) (taken_in : TakenIn) → Placed first count passes → AllByRecursion (λ pass. finite.get (all_taken taken_in passes) pass.place ≡ Some pass.pushed) passes
taken-each first count [] taken_in is = tt
taken-each first count (pass ∷ passes) taken_in is =
    let n = next_placed first count pass passes is in
    (taken-first first count pass passes taken_in is, taken-each (first + 1) n.fewer passes (finite.insert taken_in pass.place pass.pushed) n.rest)

taken-all : (first count : ℕ) (passes : List NetPassView) (taken_in : TakenIn) (place : ℕ) → Placed first count passes → first ≤ place → place < first + count → IsSome (finite.get (all_taken taken_in passes) place)
taken-all first zero [] taken_in place is le lt = absurd (omega (arith, le, lt))
taken-all first (suc count) [] taken_in place is le lt = let h = ap length is in absurd (omega (arith, h))
taken-all first count (pass ∷ passes) taken_in place is le lt =
    let n = next_placed first count pass passes is in
    let one = n.one in
    let here = n.here in
    elim (cases_eq place first) [
      | inl e ↦
          let at : finite.get (all_taken taken_in (pass ∷ passes)) place ≡ Some pass.pushed = ap (finite.get (all_taken taken_in (pass ∷ passes))) (e ∙ sym here) ∙ taken-first first count pass passes taken_in is in
          subst IsSome (sym at) refl
      | inr ne ↦
          taken-all (first + 1) n.fewer passes (finite.insert taken_in pass.place pass.pushed) place n.rest (omega (arith, le, ne)) (omega (arith, lt, one))
    ]

-- ---- all passes are in

taken_new : (left : List AirItem) (networks : ℕ) (passes : List NetPassView) → Placed 0 networks passes → AllTaken (after_taking (Radio left networks finite.empty) passes)
taken_new left networks passes is =
    subst AllTaken (sym (after_taking-is left networks finite.empty passes))
    (λ place lt. taken-all 0 networks passes finite.empty place is (omega arith) (omega (arith, lt)))

pub all_in : (out : List AirItem) (v : Known) (passes : List NetPassView) → IsRadioWith out v → taken_in_of v ≡ finite.empty → Placed 0 (networks_of v) passes → AllTaken (after_taking v passes)
all_in out v passes is new placed =
    let e : v ≡ Radio out (networks_of v) finite.empty = radio_is out v is ∙ ap (Radio out (networks_of v)) new in
    subst (λ u. AllTaken (after_taking u passes)) (sym e) (taken_new out (networks_of v) passes placed)

pub each_in : (out : List AirItem) (v : Known) (passes : List NetPassView) → IsRadioWith out v → taken_in_of v ≡ finite.empty → Placed 0 (networks_of v) passes → HasEach (taken_in_of (after_taking v passes)) passes
each_in out v passes is new placed =
    let e = ap (λ u. after_taking u passes) (radio_is out v is ∙ ap (Radio out (networks_of v)) new) ∙ after_taking-is out (networks_of v) finite.empty passes in
    subst (λ u. HasEach (taken_in_of u) passes) (sym e) (taken-each 0 (networks_of v) passes finite.empty placed)

pub left_in : (out : List AirItem) (v : Known) (passes : List NetPassView) → IsRadioWith out v → IsRadioWith out (after_taking v passes)
left_in out v passes is =
    subst (IsRadioWith out) (sym (ap (λ u. after_taking u passes) (radio_is out v is) ∙ after_taking-is out (networks_of v) (taken_in_of v) passes)) refl

pub networks_in : (out : List AirItem) (v : Known) (passes : List NetPassView) → IsRadioWith out v → networks_of (after_taking v passes) ≡ networks_of v
networks_in out v passes is = ap networks_of (ap (λ u. after_taking u passes) (radio_is out v is) ∙ after_taking-is out (networks_of v) (taken_in_of v) passes)

-- what left is of each network what its pass pushed
whole : (out : List AirItem) (networks : ℕ) (taken_in : TakenIn) (passes : List NetPassView) → Accounts (Radio out networks taken_in) [] → AllByRecursion (λ pass. finite.get taken_in pass.place ≡ Some pass.pushed) passes → AllByRecursion (λ pass. items_of pass.place out ≡ pass.pushed) passes
whole out networks taken_in [] account each = tt
whole out networks taken_in (pass ∷ passes) account each =
    (ap (items_of pass.place) (sym (append-nil out)) ∙ sym (account.1 pass.place pass.pushed each.0), whole out networks taken_in passes account each.1)

pub whole_in : (before out : List AirItem) (v : Known) (passes : List NetPassView) → IsRadioWith before v → taken_in_of v ≡ finite.empty → Placed 0 (networks_of v) passes → Accounts (Radio out (networks_of (after_taking v passes)) (taken_in_of (after_taking v passes))) [] → AllByRecursion (λ pass. items_of pass.place out ≡ pass.pushed) passes
whole_in before out v passes is new placed account =
    let e = ap (λ u. after_taking u passes) (radio_is before v is ∙ ap (Radio before (networks_of v)) new) ∙ after_taking-is before (networks_of v) finite.empty passes in
    whole out (networks_of v) (all_taken finite.empty passes) passes
    (subst (λ u. Accounts (Radio out (networks_of u) (taken_in_of u)) []) e account)
    (taken-each 0 (networks_of v) passes finite.empty placed)

pub placed_in : (before out : List AirItem) (v : Known) (passes : List NetPassView) → IsRadioWith before v → Accounts (Radio out (networks_of (after_taking v passes)) (taken_in_of (after_taking v passes))) [] → All (λ item. item.place < networks_of v) out
placed_in before out v passes is account =
    subst (λ (x : ℕ × List AirItem). All (λ item. item.place < x.0) x.1) (λ i. (networks_in before v passes is i, append-nil out i)) account.0

-- ---- nothing remains

pub accounts_as : (out : List AirItem) (networks : ℕ) (taken_in : TakenIn) (v : Known) (queued : List AirItem) → IsRadioWith out v → networks_of v ≡ networks → taken_in_of v ≡ taken_in → Accounts v queued → Accounts (Radio out networks taken_in) queued
accounts_as out networks taken_in v queued is e f account =
    subst (λ u. Accounts u queued) (radio_is out v is ∙ (λ i. Radio out (e i) (f i))) account

some_pushed : (o : Option (List (List ℕ))) → IsSome o → (pushed : List (List ℕ)) × (o ≡ Some pushed)
some_pushed None is = absurd (false≢true is)
some_pushed (Some pushed) is = (pushed, refl)

-- once as many left as had left and were queued, nothing is queued
pub nothing_queued : (networks : ℕ) (taken_in : TakenIn) (before out queued now : List AirItem) → ((place : ℕ) → place < networks → IsSome (finite.get taken_in place)) → Accounts (Radio before networks taken_in) queued → Accounts (Radio out networks taken_in) now → length before + length queued ≡ length out → Accounts (Radio out networks taken_in) []
nothing_queued networks taken_in before out queued now taken first last long =
    let same : length (before ++ queued) ≡ length (out ++ now) =
    same_count networks (before ++ queued) (out ++ now) first.0 last.0
    (λ place lt. let p = some_pushed (finite.get taken_in place) (taken place lt) in sym (first.1 place p.0 p.1) ∙ last.1 place p.0 p.1) in
    let a = length-append before queued in
    let b = length-append out now in
    subst (Accounts (Radio out networks taken_in)) (nil_from_length now (omega (arith, same, a, b, long))) last
