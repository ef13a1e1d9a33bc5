-- How many of a list pass a test.
use Rattle.std.proofs.Common.{◌≡◌, ◌+◌, Bool, true, false, List, [], ◌∷◌, ◌++◌, Option, Some, None, refl, arith}
use Rattle.std.specs.Prelude.{if◌then◌else◌}
use Rattle.std.specs.Option.{option_map, option_to_list}
use Rattle.downlink.specs.declared.frame.Frame.{Frame}
use Rattle.downlink.specs.declared.frame.Sent.{Sent}
use Rattle.downlink.specs.Receiver.{first_that, without_first, first_by, again_without, waiting_without, for_first_time}
use Rattle.downlink.specs.Laws.{one_if, count}

pub count-append : {X : Type 0} (test : X → Bool) (xs ys : List X) → count test (xs ++ ys) ≡ count test xs + count test ys
count-append test [] ys = omega arith
count-append test (x ∷ xs) ys = omega (arith, count-append test xs ys)

-- the first that passes a test, and the others
pub first_counted : {X : Type 0} (name test : X → Bool) (xs : List X)
    → count name xs ≡ count name (without_first test xs) + count name (option_to_list (first_that test xs))
first_counted name test [] = refl
first_counted {X} name test (x ∷ xs) =
    elim (test x) as (λ b. one_if (name x) + count name xs
    ≡ count name (if b then xs else x ∷ without_first test xs)
    + count name (option_to_list (if b then Some x else first_that test xs)))
    [ true ↦ omega arith | false ↦ omega (arith, first_counted name test xs) ]

-- a test of a frame, at what went
abbrev pub of_sent : (Frame → Bool) → Sent → Bool
of_sent name s = name s.frame

pub sent_counted : (name : Frame → Bool) (frame : Option Frame)
    → count (of_sent name) (option_to_list (option_map for_first_time frame)) ≡ count name (option_to_list frame)
sent_counted name None = refl
sent_counted name (Some f) = refl

-- the next by a test, and what waits without it
pub next_counted : (name test : Frame → Bool) (again : Option Frame) (waiting : List Frame)
    → count name waiting + count name (option_to_list again)
    ≡ count name (waiting_without test again waiting) + count name (option_to_list (again_without test again))
    + count (of_sent name) (option_to_list (first_by test again waiting))
next_counted name test None waiting =
    omega (arith, first_counted name test waiting, sent_counted name (first_that test waiting))
next_counted name test (Some f) waiting =
    elim (test f) as (λ b. count name waiting + (one_if (name f) + 0)
    ≡ count name (if b then waiting else without_first test waiting)
    + count name (option_to_list (if b then None else Some f))
    + count (of_sent name) (option_to_list (if b then Some (record { frame = f; is_again = true }) else option_map for_first_time (first_that test waiting)))) [
      | true ↦ omega arith
      | false ↦ omega (arith, first_counted name test waiting, sent_counted name (first_that test waiting))
    ]
