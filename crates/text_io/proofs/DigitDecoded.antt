-- From the octets at all places to the whole text.
use Rattle.std.proofs.Common.{◌≡◌, ℕ, suc, ◌+◌, ◌*◌, ◌∙◌, ◌<◌, ◌≤◌, Bool, true, false, List, [], ◌∷◌, length, get_or, Ok, Err}
use Rattle.std.proofs.Common.{Result, IsErr, refl, sym, ap, subst, arith, inl, inr}
use Rattle.std.proofs.lemmas.Bool.{cases_lt}
use Rattle.std.specs.Bool.{OnTrue}
use Rattle.std.proofs.lemmas.List.Elements.{All-from_get_or, All-get_or}
use Rattle.hex.specs.Hex.{IsBytes, decode_of, decode_pairs, decode_sized, is_hex_digit, pair_value}
use Rattle.hex.specs.declared.error.FromHexError.{FromHexError}
use Rattle.hex.proofs.HexLemmas.{decode_of-digits, decode_of-even, decode_of-ok, decode_sized-twice}
use Rattle.text_io.proofs.DigitBlocks.{same_pair}
use Rattle.text_io.specs.Pairs.{AreDigits, PairReads, ReadsAt}

-- where each octet is what its characters spell, the text reads as the octets
pub decoded : (i : ℕ) (text octets : List ℕ) → IsBytes text → length text ≡ 2 * length octets
    → ((k : ℕ) → k < length octets → ReadsAt text octets k) → decode_pairs i text ≡ Ok octets
unfolding decode_pairs
decoded i [] [] fits len reads = refl
decoded i [] (o ∷ os) fits len reads = absurd (omega arith)
decoded i (a ∷ []) [] fits len reads = absurd (omega arith)
decoded i (a ∷ []) (o ∷ os) fits len reads = absurd (omega arith)
decoded i (a ∷ b ∷ rest) [] fits len reads = absurd (omega arith)
decoded i (a ∷ b ∷ rest) (o ∷ os) fits len reads =
    let pair : pair_value a b i ≡ Ok o = reads 0 (omega arith) i (fits 0) (fits 1) in
    let later : (k : ℕ) → k < length os → ReadsAt rest os k = λ k lt.
    let place : 2 * suc k ≡ suc (suc (2 * k)) = omega arith in
    let next : 2 * suc k + 1 ≡ suc (suc (2 * k + 1)) = omega arith in
    let at : ℕ → ℕ = λ m. get_or (a ∷ b ∷ rest) m 0 in
    same_pair (ap at place) (ap at next) refl (reads (suc k) (omega arith)) in
    let ih : decode_pairs (i + 2) rest ≡ Ok os =
    decoded (i + 2) rest os (λ k. fits (suc (suc k))) (omega arith) later in
    rw (pair, ih) refl

-- the last block ends with the octets, and those before it had been read
pub covered : (text old new : List ℕ) (ok : Bool) (seen last : ℕ) (n : ℕ) → IsBytes text → length text ≡ 2 * length new
    → last + n ≡ length new → last ≤ seen → ((k : ℕ) → k < seen → ReadsAt text old k)
    → OnTrue ok ((k : ℕ) → last ≤ k → k < last + n → ReadsAt text new k)
    → ((k : ℕ) → k < last → get_or new k 0 ≡ get_or old k 0)
    → OnTrue ok (decode_pairs 0 text ≡ Ok new)
covered text old new false seen last n fits len whole over before back keeps = tt
covered text old new true seen last n fits len whole over before back keeps =
    decoded 0 text new fits len (λ k lt. elim (cases_lt k last) [
      | inl early ↦ subst (λ v. PairReads (get_or text (2 * k) 0) (get_or text (2 * k + 1) 0) v) (sym (keeps k early))
          (before k (omega arith))
      | inr late ↦ back k late (omega arith)
    ])

-- pairs of digits are what `decode` reads
pub reads_all : (text octets : List ℕ) (n : ℕ) (ok : Bool) → length text ≡ 2 * n
    → OnTrue ok (decode_pairs 0 text ≡ Ok octets) → OnTrue ok (decode_of text ≡ Ok octets)
reads_all text octets n false len reads = tt
reads_all text octets n true len reads = decode_of-even text (omega (arith, len)) ∙ reads

-- a text that spells octets is of digits alone
digits_at : (text octets : List ℕ) → decode_of text ≡ Ok octets → AreDigits text
digits_at text octets e m lt = All-get_or (λ x. is_hex_digit x ≡ true) text m 0 lt (decode_of-ok text octets e).1

-- where a text that isn't of digits alone is told so, reading it is refused
refused_as : (text : List ℕ) (read : Result (List ℕ) FromHexError) → decode_of text ≡ read → (AreDigits text → ⊥)
    → IsErr read
refused_as text (Ok octets) is other = absurd (other (digits_at text octets is))
refused_as text (Err fault) is other = refl

pub refused : (text : List ℕ) (are_digits : Bool) → are_digits ≡ false → (AreDigits text → are_digits ≡ true)
    → IsErr (decode_of text)
refused text are_digits is all = refused_as text (decode_of text) refl (λ digits. cc (all digits))

-- a text of digits alone reads
pub all_read : (text : List ℕ) (n : ℕ) → length text ≡ 2 * n → AreDigits text
    → (octets : List ℕ) × (decode_sized text n ≡ Ok octets)
all_read text n len digits =
    let each = All-from_get_or (λ x. is_hex_digit x ≡ true) text 0 digits in
    let octets = decode_of-digits text (omega arith) each in
    (octets.0, decode_sized-twice text n len ∙ octets.1)
