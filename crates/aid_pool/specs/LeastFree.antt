-- The least association identifier that is free (IEEE Std 802.11-2016, 9.4.1.8: the numbers from 1 to 2007; that the
-- least is handed out is profile).
use Rattle.std.specs.Prelude.{ℕ, ◌≡◌, ◌<◌, ◌≤◌, Bool, true, false, not, nat_eq, List, find, unwrap_or}
use Rattle.std.specs.List.{list_any, range_with_len}

-- the least number from 1 to 2007 on which the test is false
pub record IsLeastFree (is_out : ℕ → Bool) (n : ℕ) : Type 0 where
  pub first : 1 ≤ n
  pub last : n ≤ 2007
  pub free : is_out n ≡ false
  pub least : (m : ℕ) → 1 ≤ m → m < n → is_out m ≡ true

-- that number, or 0, which is no identifier, where there is none
unfoldable pub least_free : (ℕ → Bool) → ℕ
least_free is_out = unwrap_or (find (λ n. not (is_out n)) (range_with_len 1 2007)) 0

-- the test of being one of the numbers of a list
abbrev pub is_among : List ℕ → ℕ → Bool
is_among numbers n = list_any (λ m. nat_eq m n) numbers
