-- Which receivers of a network have a frame that may go: a bit for each place, 64 to a word.
use Rattle.std.specs.Prelude.{ℕ, zero, suc, ◌≡◌, ◌≤◌, ◌<◌, ◌+◌, ◌/◌, ◌%◌, ◌==◌, Bool, true, false}
use Rattle.std.specs.Prelude.{List, [], ◌∷◌, length, slice_index}
use Rattle.std.specs.Int.{bit_at}
use Rattle.downlink.specs.Receiver.{Queue, may_go}

-- the bit of a place is set: bit n mod 64 of word n / 64
abbrev pub has_bit : List ℕ → ℕ → Bool
has_bit words place = bit_at (slice_index words (place / 64)) (place % 64) == 1

-- from a place on the first one that passes a test
pub record IsFirstFrom (from : ℕ) (test : ℕ → Bool) (place : ℕ) : Type 0 where
  pub not_before : from ≤ place
  pub passes : test place ≡ true
  pub others : (p : ℕ) → from ≤ p → p < place → test p ≡ false

-- there is a receiver at a place, and a frame of it may go
abbrev pub may_go_at : List Queue → ℕ → Bool
may_go_at [] place = false
may_go_at (q ∷ qs) zero = may_go q
may_go_at (q ∷ qs) (suc place) = may_go_at qs place

-- the bits are those of the receivers of which a frame may go
pub record IsReady (words : List ℕ) (receivers : List Queue) : Type 0 where
  pub room : length words ≡ length receivers / 64 + 1
  pub bits : (place : ℕ) → has_bit words place ≡ may_go_at receivers place
