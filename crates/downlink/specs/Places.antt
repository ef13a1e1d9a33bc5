-- Where the first of a list stands that passes a test.
use Rattle.std.specs.Prelude.{ℕ, ◌≡◌, ◌<◌, Bool, List, length, slice_get, None}
use Rattle.std.specs.List.{remove}
use Rattle.downlink.specs.Receiver.{first_that, without_first}

-- it stands there
pub record IsFirst {X : Type 0} (test : X → Bool) (xs : List X) (place : ℕ) : Type 0 where
  pub within : place < length xs
  pub first : first_that test xs ≡ slice_get xs place
  pub rest : without_first test xs ≡ remove xs place

-- there is none
pub record IsNowhere {X : Type 0} (test : X → Bool) (xs : List X) : Type 0 where
  pub first : first_that test xs ≡ None
  pub rest : without_first test xs ≡ xs
