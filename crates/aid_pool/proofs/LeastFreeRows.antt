-- The least number that is free, computed of some numbers that are out.
use Rattle.std.proofs.Common.{◌≡◌, ℕ, ◌<◌, ◌≤◌, zero, suc, true, nat_le, [], ◌∷◌, refl, arith}
use Rattle.aid_pool.specs.LeastFree.{IsLeastFree, least_free, is_among}
use Rattle.mac_frame.proofs.Rows.{Computes}

least_numbers : Computes least_free (
    ("the first is 1", is_among [], 1)
    ∷ ("the second is 2", is_among (1 ∷ []), 2)
    ∷ ("the third is 3", is_among (1 ∷ 2 ∷ []), 3)
    ∷ ("number 1 comes again", is_among (2 ∷ []), 1)
    ∷ ("a gap is filled", is_among (1 ∷ 2 ∷ 4 ∷ 5 ∷ []), 3)
    ∷ ("the least of two gaps is filled", is_among (5 ∷ 3 ∷ 1 ∷ []), 2)
    ∷ ("a number that stands twice is one", is_among (1 ∷ 1 ∷ []), 2)
    ∷ ("number 0 is none", is_among (0 ∷ []), 1)
    ∷ ("the last is 2007", λ n. nat_le n 2006, 2007)
    ∷ ("none is past 2007", λ n. nat_le n 2007, 0)
    ∷ [])
unfolding least_free
least_numbers = refl

-- ---- the relation

numbers_1_and_2_are_out : (m : ℕ) → 1 ≤ m → m < 3 → is_among (1 ∷ 2 ∷ 4 ∷ []) m ≡ true
numbers_1_and_2_are_out zero from to = absurd (omega arith)
numbers_1_and_2_are_out (suc zero) from to = refl
numbers_1_and_2_are_out (suc (suc zero)) from to = refl
numbers_1_and_2_are_out (suc (suc (suc m))) from to = absurd (omega arith)

number_3_is_the_least_beside_1_2_and_4 : IsLeastFree (is_among (1 ∷ 2 ∷ 4 ∷ [])) 3
number_3_is_the_least_beside_1_2_and_4 =
    record { first = omega arith; last = omega arith; free = refl; least = numbers_1_and_2_are_out }
