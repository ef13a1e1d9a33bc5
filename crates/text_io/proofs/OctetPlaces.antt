-- The first place of an octet, as a search finds it and as a definition names it.
use Rattle.std.proofs.Common.{◌≡◌, ℕ, ◌<◌, ◌==◌, Bool, true, false, not, List, Option, Some, None, length}
use Rattle.std.proofs.Common.{refl, arith}
use Rattle.std.specs.Prelude.{position}
use Rattle.std.specs.List.{position_or_len}
use Rattle.std.proofs.lemmas.Bool.Decides.{nat_tests}
use Rattle.std.proofs.lemmas.List.Sums.{prefix_len_is}
use Rattle.memchr.specs.Find.{IsFirstByte, is_byte}

-- a test that fails
fails : (b : Bool) → ¬ (b ≡ true) → not b ≡ true
fails true h = absurd (h refl)
fails false h = refl

pub place_is_position : (octet : ℕ) (text : List ℕ) (r : Option ℕ) → IsFirstByte (is_byte octet) text r
    → r ≡ position (λ c. c == octet) text
place_is_position octet text None h =
    let whole : position_or_len (λ c. c == octet) text ≡ length text =
    prefix_len_is (λ c. not (c == octet)) text (length text) 0 (omega arith) (λ k l. fails _ (h k (omega arith) l))
    (λ l. absurd (omega arith)) in
    grind (arith, nat_tests)
place_is_position octet text (Some k) h =
    let low : k < length text = h.0.high in
    let before : position_or_len (λ c. c == octet) text ≡ k =
    prefix_len_is (λ c. not (c == octet)) text k 0 (omega arith)
    (λ i l. fails _ (h.0.before i (omega arith) l))
    (λ l. rw (h.1) refl) in
    grind (arith, nat_tests)
