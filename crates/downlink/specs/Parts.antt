-- Calls to one of several. Each has a place, and a call goes to one at most.
use Rattle.std.specs.Prelude.{ℕ, nat_eq, List, [], ◌∷◌, ◌++◌, Option, Some, None, slice_get, slice_set, if◌then◌else◌}
use Rattle.std.specs.Option.{option_map, option_and_then}

-- the one at a place changes, if there is one
abbrev pub put_at : {X : Type 0} → (X → X) → (place : ℕ) → List X → Option X → List X
put_at change place xs None = xs
put_at change place xs (Some x) = slice_set xs place (change x)

-- a call for one of them changes that one by its own step, and no other one
abbrev pub after_one : {X C : Type 0} → (X → C → X) → Option (ℕ × C) → List X → List X
after_one step None xs = xs
after_one step (Some given) xs = put_at (λ x. step x given.1) given.0 xs (slice_get xs given.0)

-- what that one answers, with its place
abbrev pub answer_of_one : {X C A : Type 0} → (X → C → Option A) → Option (ℕ × C) → List X → Option (ℕ × A)
answer_of_one answer None xs = None
answer_of_one answer (Some given) xs =
    option_map (λ a. (given.0, a)) (option_and_then (λ x. answer x given.1) (slice_get xs given.0))

-- the call, if it goes to the one at a place
abbrev pub own_call : {C : Type 0} → (place : ℕ) → Option (ℕ × C) → List C
own_call place None = []
own_call place (Some given) = if nat_eq given.0 place then given.1 ∷ [] else []

-- what the one at a place answered
abbrev pub own_answers : {A : Type 0} → (place : ℕ) → List (ℕ × A) → List A
own_answers place [] = []
own_answers place (told ∷ more) = (if nat_eq told.0 place then told.1 ∷ [] else []) ++ own_answers place more
