-- Octets that are cut into frames, and some of these frames.
use Rattle.std.proofs.Common.{◌≡◌, ℕ, zero, suc, ◌+◌, List, [], ◌∷◌, length, map, take, drop, refl, sym, ap, ◌∙◌}
use Rattle.std.proofs.Common.{arith}
use Rattle.std.specs.Prelude.{sum}
use Rattle.std.proofs.lemmas.List.{take-take, drop-drop, drop-take, length-take-le, length-drop}
use Rattle.std.proofs.lemmas.List.Sums.{sum_by-cons}
use Rattle.networks.specs.SentFrames.{cut_by}

pub length-cut : (lengths octets : List ℕ) → length (cut_by lengths octets) ≡ length lengths
length-cut [] octets = refl
length-cut (len ∷ lengths) octets = ap suc (length-cut lengths (drop len octets))

-- each frame is as long as its length says
pub lengths-cut : (lengths octets : List ℕ) → sum lengths ≡ length octets → lengths ≡ map length (cut_by lengths octets)
lengths-cut [] octets whole = refl
lengths-cut (len ∷ lengths) octets whole =
    let parts : len + sum lengths ≡ length octets = sym (sum_by-cons (λ (n : ℕ). n) len lengths) ∙ whole in
    let rest : sum lengths ≡ length (drop len octets) = omega (arith, length-drop len octets, parts) in
    let first : len ≡ length (take len octets) = sym (length-take-le len octets (omega (arith, parts))) in
    ap (λ (ls : List ℕ). len ∷ ls) (lengths-cut lengths (drop len octets) rest)
    ∙ ap (λ (n : ℕ). n ∷ map length (cut_by lengths (drop len octets))) first

-- ---- the first of them, and the others

pub front-cut : (count : ℕ) (lengths octets : List ℕ)
    → cut_by (take count lengths) (take (sum (take count lengths)) octets) ≡ take count (cut_by lengths octets)
front-cut zero lengths octets = refl
front-cut (suc count) [] octets = refl
front-cut (suc count) (len ∷ lengths) octets =
    let some : List ℕ = take count lengths in
    let total : sum (len ∷ some) ≡ len + sum some = sum_by-cons (λ (n : ℕ). n) len some in
    ap (λ (n : ℕ). cut_by (len ∷ some) (take n octets)) total
    ∙ ap (λ (f : List ℕ). f ∷ cut_by some (drop len (take (len + sum some) octets)))
    (take-take len (len + sum some) octets (omega arith))
    ∙ ap (λ (os : List ℕ). take len octets ∷ cut_by some os) (drop-take len (sum some) octets)
    ∙ ap (λ (fs : List (List ℕ)). take len octets ∷ fs) (front-cut count lengths (drop len octets))

pub back-cut : (count : ℕ) (lengths octets : List ℕ)
    → cut_by (drop count lengths) (drop (sum (take count lengths)) octets) ≡ drop count (cut_by lengths octets)
back-cut zero lengths octets = refl
back-cut (suc count) [] octets = refl
back-cut (suc count) (len ∷ lengths) octets =
    let some : List ℕ = take count lengths in
    let total : sum (len ∷ some) ≡ len + sum some = sum_by-cons (λ (n : ℕ). n) len some in
    ap (λ (n : ℕ). cut_by (drop count lengths) (drop n octets)) total
    ∙ ap (cut_by (drop count lengths)) (sym (drop-drop (sum some) len octets))
    ∙ back-cut count lengths (drop len octets)
