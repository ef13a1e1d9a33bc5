-- Blocks of characters, of which those before the first space count.
use Rattle.std.proofs.Common.{◌≡◌, ◌∙◌, ◌+◌, ◌≤◌, ◌++◌, ℕ, Bool, true, false, zero, suc, List, [], ◌∷◌, length, take, drop}
use Rattle.std.proofs.Common.{refl, ap, sym, min, arith, append_assoc, length-append, one-add, take_at, take-append-drop}
use Rattle.std.specs.List.{prefix_len}
use Rattle.std.specs.Prelude.{not}
use Rattle.std.proofs.lemmas.List.{length-take, take-take}
use Rattle.std.proofs.lemmas.List.Sums.{prefix_len-le-length}
use Rattle.std.proofs.lemmas.Simd.{put_chunk_is}
use lib.Lanes.{put_chunk}
use Rattle.trace.specs.TraceText.{is_space, digits_of}

-- ---- what is read

-- how many of a text's first characters come before a space
abbrev pub run_of : ℕ → List ℕ → ℕ
run_of n text = prefix_len (λ character. not (is_space character)) (take n text)

-- they are its first digits
abbrev StartsWithRun : ℕ → List ℕ → Type 0
StartsWithRun n text = digits_of text ≡ take (run_of n text) text ++ digits_of (drop (run_of n text) text)

pub run_first : (n : ℕ) (text : List ℕ) → StartsWithRun n text
run_first zero text = refl
run_first (suc n) [] = refl
run_first (suc n) (x ∷ xs) = by (run_first n xs) (is_space x) refl
  where
    by : StartsWithRun n xs → (b : Bool) → is_space x ≡ b → StartsWithRun (suc n) (x ∷ xs)
    by below true is = rw is (rw is refl)
    by below false is = rw (is, one-add (run_of n xs)) (ap (λ (t : List ℕ). x ∷ t) below)

pub run_within : (n : ℕ) (text : List ℕ) → run_of n text ≤ min n (length text)
run_within n text =
    let most : run_of n text ≤ length (take n text) = prefix_len-le-length _ (take n text) in
    omega (arith, most, length-take n text)

-- ---- what is put

-- a block of a text is put into memory, of which some characters count
pub put_some : (at r : ℕ) (memory text : List ℕ) → r ≤ 16 → 16 ≤ length text → at + 16 ≤ length memory
    → take (at + r) (put_chunk at memory (take 16 text)) ≡ take at memory ++ take r text
put_some at r memory text few long fits =
    let block : List ℕ = take 16 text in
    let room : at + length block ≤ length memory = omega (arith, length-take 16 text) in
    let count : length (take at memory ++ take r text) ≡ at + r =
    omega (arith, length-append (take at memory) (take r text), length-take at memory, length-take r text) in
    let later : List ℕ = drop r block ++ drop (length block) (drop at memory) in
    let parts : put_chunk at memory block ≡ (take at memory ++ take r text) ++ later =
    put_chunk_is at memory block room
    ∙ ap (λ (t : List ℕ). take at memory ++ (t ++ drop (length block) (drop at memory))) (sym (take-append-drop r block))
    ∙ rw (take-take r 16 text few) (simp append_assoc) in
    ap (take (at + r)) parts ∙ take_at (take at memory ++ take r text) later (at + r) count

-- the digits before the rest of a text stand in memory, and then those before what follows its first run
pub run_put : (text rest memory new : List ℕ) (len run : ℕ) → digits_of text ≡ take len memory ++ digits_of rest
    → run ≡ run_of 16 rest → take (len + run) new ≡ take len memory ++ take run rest
    → digits_of text ≡ take (len + run) new ++ digits_of (drop run rest)
run_put text rest memory new len run reads is put =
    rw (put, append_assoc (take len memory) (take run rest) (digits_of (drop run rest)), is)
    (reads ∙ ap (λ (t : List ℕ). take len memory ++ t) (run_first 16 rest))
