-- How a pool keeps its numbers, the association identifiers of IEEE Std 802.11-2016, 9.4.1.8: a bit for each, 64 to a
-- word.
use Rattle.std.specs.Prelude.{ℕ, ◌≡◌, ◌*◌, ◌/◌, ◌%◌, ◌-◌, ◌^◌, ◌<◌, Bool, true, false, not, ◌==◌, List, length}
use Rattle.std.specs.Prelude.{slice_index, filter}
use Rattle.std.specs.Int.{bit_at}
use Rattle.std.specs.List.{range_with_len}
use Rattle.std.specs.Ordering.{nat_cmp}
use Rattle.std.specs.FinSet as set

-- the mark of a number is set: bit n mod 64 of word n / 64
abbrev pub has_mark : List ℕ → ℕ → Bool
has_mark words n = bit_at (slice_index words (n / 64)) (n % 64) == 1

-- the identifiers, numbers from 1 to 2007, whose marks are set
unfoldable pub numbers_of : List ℕ → set.FinSet nat_cmp
numbers_of words = set.from_list (filter (has_mark words) (range_with_len 1 2007))

-- one of the 64 marks of a word isn't set
abbrev pub has_clear_mark : ℕ → Bool
has_clear_mark word = not (word == 2 ^ 64 - 1)

-- of the marks of all words, that of number n is the first that isn't set
pub record IsFirstClear (words : List ℕ) (n : ℕ) : Type 0 where
  pub within : n < 64 * length words
  pub clear : has_mark words n ≡ false
  pub before : (m : ℕ) → m < n → has_mark words m ≡ true
