-- Where the first of a list stands that passes a test.
use Rattle.std.proofs.Common.{◌≡◌, ◌<◌, ◌≤◌, ℕ, zero, suc, Bool, true, false, not, List, [], ◌∷◌, length, get_or}
use Rattle.std.proofs.Common.{Option, Some, None, refl, ap, arith}
use Rattle.std.proofs.lemmas.Bool.{eq-eqb}
use Rattle.std.specs.Option.{option_map}
use mathlib.Core.Bool.{beq}
use Rattle.downlink.specs.declared.frame.Frame.{Frame}
use Rattle.downlink.specs.declared.frame.Sent.{Sent}
use Rattle.downlink.specs.declared.frame.Way.TheVariants.{InTurn}
use Rattle.downlink.specs.Receiver.{Queue, first_that, without_first, first_by, for_first_time, waiting_without}
use Rattle.downlink.specs.Receiver.{again_without, without_by, goes, takes_way, has_ticket}
use Rattle.downlink.specs.Places.{IsFirst, IsNowhere}

-- none before it passes, and it does
pub is_first : {X : Type 0} (test : X → Bool) (xs : List X) (place : ℕ) (d : X) → place < length xs
    → ((k : ℕ) → k < place → test (get_or xs k d) ≡ false) → test (get_or xs place d) ≡ true → IsFirst test xs place
is_first test [] place d l before h = absurd (omega arith)
is_first test (x ∷ xs) zero d l before h = record { within = l; first = rw h refl; rest = rw h refl }
is_first test (x ∷ xs) (suc place) d l before h =
    let no : test x ≡ false = before 0 (omega arith) in
    let more : place < length xs = omega arith in
    let there : IsFirst test xs place = is_first test xs place d more (λ k m. before (suc k) (omega arith)) h in
    record { within = l; first = rw no there.first; rest = rw no (ap (λ ys. x ∷ ys) there.rest) }

pub is_nowhere : {X : Type 0} (test : X → Bool) (xs : List X) (d : X)
    → ((k : ℕ) → k < length xs → test (get_or xs k d) ≡ false) → IsNowhere test xs
is_nowhere test [] d h = record { first = refl; rest = refl }
is_nowhere test (x ∷ xs) d h =
    let no : test x ≡ false = h 0 (omega arith) in
    let there : IsNowhere test xs = is_nowhere test xs d (λ k m. h (suc k) (omega arith)) in
    record { first = rw no there.first; rest = rw no (ap (λ ys. x ∷ ys) there.rest) }

-- ---- a frame by its way, and what went by its ticket

is_true : (v : Bool) → beq v true ≡ true → v ≡ true
is_true true h = refl
is_true false h = absurd (cc)

is_false : (v : Bool) → beq v false ≡ true → not v ≡ true
is_false true h = absurd (cc)
is_false false h = refl

passes : (b : Bool) (f : Frame) → beq (goes f) b ≡ true → takes_way b f ≡ true
passes true f h = is_true (goes f) h
passes false f h = is_false (goes f) h

pub first_by_way : (b : Bool) (fs : List Frame) (place : ℕ) (d : Frame) (v : Bool) → v ≡ goes (get_or fs place d)
    → beq v b ≡ true → place < length fs
    → ((k : ℕ) (e : Frame) → k < place → takes_way b (get_or fs k e) ≡ false) → IsFirst (takes_way b) fs place
first_by_way b fs place d v e h l before =
    is_first (takes_way b) fs place d l (λ k m. before k d m) (passes b (get_or fs place d) (rw e at h))

abbrev pub no_frame : Frame
no_frame = record { ticket = 0; is_unit = false; until = 0; way = InTurn }

pub nowhere_by_way : (b : Bool) (fs : List Frame) (place : ℕ) → length fs ≤ place
    → ((k : ℕ) (e : Frame) → k < place → takes_way b (get_or fs k e) ≡ false) → IsNowhere (takes_way b) fs
nowhere_by_way b fs place l before = is_nowhere (takes_way b) fs no_frame (λ k m. before k no_frame (omega arith))

pub first_by_ticket : (ticket : ℕ) (ss : List Sent) (place : ℕ) (d : Sent) → (get_or ss place d).frame.ticket ≡ ticket
    → place < length ss
    → ((k : ℕ) (e : Sent) → k < place → has_ticket ticket (get_or ss k e) ≡ false) → IsFirst (has_ticket ticket) ss place
first_by_ticket ticket ss place d h l before =
    is_first (has_ticket ticket) ss place d l (λ k m. before k d m) (eq-eqb (get_or ss place d).frame.ticket ticket h)

abbrev pub no_sent : Sent
no_sent = record { frame = no_frame; is_again = false }

pub nowhere_by_ticket : (ticket : ℕ) (ss : List Sent) (place : ℕ) → length ss ≤ place
    → ((k : ℕ) (e : Sent) → k < place → has_ticket ticket (get_or ss k e) ≡ false) → IsNowhere (has_ticket ticket) ss
nowhere_by_ticket ticket ss place l before = is_nowhere (has_ticket ticket) ss no_sent (λ k m. before k no_sent (omega arith))

-- ---- where none is, all stays

pub first_none : {X : Type 0} (test : X → Bool) (xs : List X) → first_that test xs ≡ None → without_first test xs ≡ xs
first_none test [] h = refl
first_none {X} test (x ∷ xs) h =
    let one : (b : Bool) → test x ≡ b → without_first test (x ∷ xs) ≡ x ∷ xs =
    λ b. elim b as (λ v. test x ≡ v → without_first test (x ∷ xs) ≡ x ∷ xs) [
      | true ↦ (λ e. let none : Some x ≡ None = rw e at h in absurd (cc))
      | false ↦ (λ e. rw e (ap (λ ys. x ∷ ys) (first_none test xs (rw e at h))))
    ] in
    one (test x) refl

fresh_none : (o : Option Frame) → option_map for_first_time o ≡ None → o ≡ None
fresh_none None h = refl
fresh_none (Some f) h = absurd (cc)

none_waits : (test : Frame → Bool) (fs : List Frame) → option_map for_first_time (first_that test fs) ≡ None
    → without_first test fs ≡ fs
none_waits test fs h = first_none test fs (fresh_none (first_that test fs) h)

waiting_stays : (test : Frame → Bool) (again : Option Frame) (fs : List Frame) → first_by test again fs ≡ None
    → waiting_without test again fs ≡ fs
waiting_stays test None fs h = none_waits test fs h
waiting_stays test (Some f) fs h =
    let one : (b : Bool) → test f ≡ b → waiting_without test (Some f) fs ≡ fs =
    λ b. elim b as (λ v. test f ≡ v → waiting_without test (Some f) fs ≡ fs)
    [ true ↦ (λ e. rw e refl) | false ↦ (λ e. rw e (none_waits test fs (rw e at h))) ] in
    one (test f) refl

again_stays : (test : Frame → Bool) (again : Option Frame) (fs : List Frame) → first_by test again fs ≡ None
    → again_without test again ≡ again
again_stays test None fs h = refl
again_stays test (Some f) fs h =
    let one : (b : Bool) → test f ≡ b → again_without test (Some f) ≡ Some f =
    λ b. elim b as (λ v. test f ≡ v → again_without test (Some f) ≡ Some f)
    [ true ↦ (λ e. let sent : Sent = record { frame = f; is_again = true } in let none : Some sent ≡ None = rw e at h in absurd (cc)) | false ↦ (λ e. rw e refl) ] in
    one (test f) refl

pub none_stays : (test : Frame → Bool) (q : Queue) → first_by test q.again q.waiting ≡ None → without_by test q ≡ q
none_stays test q h = rw (waiting_stays test q.again q.waiting h, again_stays test q.again q.waiting h) refl
