-- Which marks the words of a pool have, at the edges of a word (IEEE Std 802.11-2016, 9.4.1.8: the numbers from 1 to
-- 2007).
use Rattle.std.proofs.Common.{◌^◌, ◌-◌, true, false, [], ◌∷◌, ◌++◌, replicate, refl}
use Rattle.aid_pool.specs.Marks.{has_mark, has_clear_mark}
use Rattle.mac_frame.proofs.Rows.{Computes}

marks : Computes (λ x. x) (
    ("number 1 is bit 1 of word 0", has_mark (2 ∷ []) 1, true)
    ∷ ("number 63 is the last of word 0", has_mark ((2 ^ 63) ∷ 0 ∷ []) 63, true)
    ∷ ("number 64 is the first of word 1", has_mark (0 ∷ 1 ∷ []) 64, true)
    ∷ ("number 65 is bit 1 of word 1", has_mark (0 ∷ 2 ∷ []) 65, true)
    ∷ ("number 63 has no mark in word 1", has_mark (0 ∷ (2 ^ 64 - 1) ∷ []) 63, false)
    ∷ ("number 1983 is the last of word 30", has_mark (replicate 30 0 ++ (2 ^ 63) ∷ 0 ∷ []) 1983, true)
    ∷ ("number 1984 is the first of word 31", has_mark (replicate 31 0 ++ 1 ∷ []) 1984, true)
    ∷ ("number 2007 is bit 23 of word 31", has_mark (replicate 31 0 ++ (2 ^ 23) ∷ []) 2007, true)
    ∷ [])
marks = refl

clear_marks : Computes has_clear_mark (
    ("a full word has no clear mark", 2 ^ 64 - 1, false)
    ∷ ("a word without its last mark has one", 2 ^ 63 - 1, true)
    ∷ [])
clear_marks = refl
