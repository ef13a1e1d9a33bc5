-- How many frames of a receiver are held as one leaves, so that the room for what is out stays.
use Rattle.std.proofs.Common.{◌≡◌, ◌+◌, Bool, true, false, List, [], ◌∷◌, length, Option, Some, None, refl, arith}
use Rattle.std.specs.Prelude.{if◌then◌else◌}
use Rattle.std.specs.Option.{option_map, option_to_list}
use Rattle.downlink.specs.declared.frame.Frame.{Frame}
use Rattle.downlink.specs.Receiver.{first_that, without_first, first_by, again_without, waiting_without, for_first_time}

first_taken : {X : Type 0} (test : X → Bool) (xs : List X)
    → length (without_first test xs) + length (option_to_list (first_that test xs)) ≡ length xs
first_taken test [] = refl
first_taken test (x ∷ xs) =
    elim (test x) as (λ b. length (if b then xs else x ∷ without_first test xs)
    + length (option_to_list (if b then Some x else first_that test xs)) ≡ length (x ∷ xs))
    [ true ↦ omega arith | false ↦ omega (arith, first_taken test xs) ]

as_many_sent : (frame : Option Frame) → length (option_to_list (option_map for_first_time frame)) ≡ length (option_to_list frame)
as_many_sent None = refl
as_many_sent (Some f) = refl

-- the next by a test, and what waits without it
pub next_taken : (test : Frame → Bool) (again : Option Frame) (waiting : List Frame)
    → length (waiting_without test again waiting) + length (option_to_list (again_without test again))
    + length (option_to_list (first_by test again waiting)) ≡ length waiting + length (option_to_list again)
next_taken test None waiting = omega (arith, first_taken test waiting, as_many_sent (first_that test waiting))
next_taken test (Some f) waiting =
    elim (test f) as (λ b. length (if b then waiting else without_first test waiting)
    + length (option_to_list (if b then None else Some f))
    + length (option_to_list (if b then Some (record { frame = f; is_again = true }) else option_map for_first_time (first_that test waiting)))
    ≡ length waiting + 1) [
      | true ↦ omega arith
      | false ↦ omega (arith, first_taken test waiting, as_many_sent (first_that test waiting))
    ]
