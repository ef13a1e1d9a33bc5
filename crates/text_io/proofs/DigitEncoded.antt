-- From the pairs of digits at all places to the whole text.
use Rattle.std.proofs.Common.{◌≡◌, ℕ, suc, ◌+◌, ◌*◌, ◌<◌, ◌≤◌, List, [], ◌∷◌, length, get_or, refl, sym, ap, arith}
use Rattle.std.proofs.Common.{inl, inr}
use Rattle.std.proofs.lemmas.Bool.{cases_lt}
use Rattle.hex.specs.Hex.{encode_lower, encode_with}
use Rattle.text_io.proofs.DigitBlocks.{same_spelling}
use Rattle.text_io.specs.Pairs.{SpellsAt}

-- where the characters at each place are the octet's digits, the text is that of the octets
pub encoded : (octets text : List ℕ) → length text ≡ 2 * length octets
    → ((k : ℕ) → k < length octets → SpellsAt octets text k) → text ≡ encode_lower octets
unfolding encode_with
encoded [] [] len spells = refl
encoded [] (a ∷ rest) len spells = absurd (omega arith)
encoded (o ∷ os) [] len spells = absurd (omega arith)
encoded (o ∷ os) (a ∷ []) len spells = absurd (omega arith)
encoded (o ∷ os) (a ∷ b ∷ rest) len spells =
    let pair = spells 0 (omega arith) in
    let later : (k : ℕ) → k < length os → SpellsAt os rest k = λ k lt.
    let place : 2 * suc k ≡ suc (suc (2 * k)) = omega arith in
    let next : 2 * suc k + 1 ≡ suc (suc (2 * k + 1)) = omega arith in
    let at : ℕ → ℕ = λ m. get_or (a ∷ b ∷ rest) m 0 in
    same_spelling refl (ap at place) (ap at next) (spells (suc k) (omega arith)) in
    let ih : rest ≡ encode_lower os = encoded os rest (omega arith) later in
    (λ i. pair.0 i ∷ pair.1 i ∷ ih i)

-- the last block ends with the text, and those before it had been written
pub all_encoded : (octets old new : List ℕ) (seen last n : ℕ) → length new ≡ 2 * length octets
    → last + n ≡ length octets → last ≤ seen → ((k : ℕ) → k < seen → SpellsAt octets old k)
    → ((k : ℕ) → last ≤ k → k < last + n → SpellsAt octets new k)
    → ((k : ℕ) → k < 2 * last → get_or new k 0 ≡ get_or old k 0) → new ≡ encode_lower octets
all_encoded octets old new seen last n len whole over before back keeps =
    encoded octets new len (λ k lt. elim (cases_lt k last) [
      | inl early ↦ same_spelling refl (sym (keeps (2 * k) (omega arith))) (sym (keeps (2 * k + 1) (omega arith)))
          (before k (omega arith))
      | inr late ↦ back k late (omega arith)
    ])
