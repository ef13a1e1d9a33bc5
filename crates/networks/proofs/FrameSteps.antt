-- Frames whose octets stand one after another.
use Rattle.std.proofs.Common.{◌≡◌, ℕ, ◌+◌, ◌≤◌, List, [], ◌∷◌, ◌++◌, length, take, drop}
use Rattle.std.proofs.Common.{sym, ap, ◌∙◌, arith}
use Rattle.std.specs.Prelude.{sum}
use Rattle.std.proofs.Math.Seq.{take-length}
use Rattle.std.proofs.lemmas.List.{take-append-le, drop-append-le, length-drop}
use Rattle.std.proofs.lemmas.List.Sums.{sum_by-cons}
use Rattle.networks.specs.SentFrames.{cut_by}

-- ---- one frame more

pub cut-push : (lengths octets frame : List ℕ) → sum lengths ≡ length octets
    → cut_by (lengths ++ length frame ∷ []) (octets ++ frame) ≡ cut_by lengths octets ++ frame ∷ []
cut-push [] [] frame whole = ap (λ (f : List ℕ). f ∷ []) (take-length frame)
cut-push [] (octet ∷ octets) frame whole = absurd (omega arith)
cut-push (len ∷ lengths) octets frame whole =
    let parts : len + sum lengths ≡ length octets = sym (sum_by-cons (λ (n : ℕ). n) len lengths) ∙ whole in
    let within : len ≤ length octets = omega arith in
    let rest : sum lengths ≡ length (drop len octets) = omega (arith, length-drop len octets) in
    ap (λ (f : List ℕ). f ∷ cut_by (lengths ++ length frame ∷ []) (drop len (octets ++ frame)))
    (take-append-le len octets frame within)
    ∙ ap (λ (os : List ℕ). take len octets ∷ cut_by (lengths ++ length frame ∷ []) os)
    (drop-append-le len octets frame within)
    ∙ ap (λ (fs : List (List ℕ)). take len octets ∷ fs) (cut-push lengths (drop len octets) frame rest)
