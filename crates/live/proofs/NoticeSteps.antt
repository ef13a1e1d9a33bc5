-- Lines for people, as records.
use Rattle.std.proofs.Common.{◌≡◌, ℕ, ◌+◌, ◌*◌, ◌<◌, ◌≤◌, List, [], ◌∷◌, ◌++◌, length, refl, sym, ◌∙◌, arith}
use Rattle.std.proofs.Common.{length-append}
use Rattle.std.proofs.lemmas.Bool.{lt-ltb, le-ltb}
use Rattle.hex.specs.Hex.{encode_lower, lower_digits}
use Rattle.hex.proofs.HexLemmas.{length-encode_with}
use Rattle.text_io.specs.Texts.{ended}
use Rattle.live.specs.AnswerOctets.{record_header, record_of, told}
use Rattle.live_rules.specs.Records.{nobody}

pub record-over : (kind : ℕ) (bssid octets : List ℕ) → 65535 < length octets → [] ≡ record_of kind bssid octets
unfolding record_of
record-over kind bssid octets many = rw (lt-ltb 65535 (length octets) many) refl

pub record-is : (kind : ℕ) (bssid octets : List ℕ) → length octets ≤ 65535
    → record_header kind bssid (length octets) ++ octets ≡ record_of kind bssid octets
unfolding record_of
record-is kind bssid octets few = rw (le-ltb 65535 (length octets) few) refl

-- a line with its LF is none that is empty
told-is : (line : List ℕ) → told (ended line) ≡ record_of 78 nobody (ended line)
unfolding told
told-is [] = refl
told-is (x ∷ xs) = refl

-- no line
pub told-none : (line : List ℕ) → length line ≡ 0 → [] ≡ told line
unfolding told
told-none [] none = refl
told-none (x ∷ xs) none = absurd (omega (arith, none))

-- one that is too long
pub told-long : (line : List ℕ) → 65535 < length line → [] ≡ told line
unfolding told
told-long [] many = absurd (omega (arith, many))
told-long (x ∷ xs) many = record-over 78 nobody (x ∷ xs) many

-- one whose octets were counted
pub told-counted : (line : List ℕ) (count : ℕ) → count ≡ length line → 1 ≤ count → count ≤ 65535
    → record_header 78 nobody count ++ line ≡ told line
unfolding told
told-counted [] count is some few = absurd (omega (arith, is, some))
told-counted (x ∷ xs) count is some few =
    rw is (record-is 78 nobody (x ∷ xs) (rw is at few))

line-len : (line octets : List ℕ) → length (ended (line ++ encode_lower octets)) ≡ length line + 2 * length octets + 1
line-len line octets =
    simp length-append (omega (arith, length-encode_with lower_digits octets))

pub told-over : (line octets : List ℕ) → 65535 < length line + 2 * length octets + 1
    → [] ≡ told (ended (line ++ encode_lower octets))
told-over line octets many =
    record-over 78 nobody (ended (line ++ encode_lower octets)) (rw (line-len line octets) many)
    ∙ sym (told-is (line ++ encode_lower octets))

pub told-line : (line octets : List ℕ) (count : ℕ) → count ≡ length line + 2 * length octets + 1 → count ≤ 65535
    → ((record_header 78 nobody count ++ line) ++ encode_lower octets) ++ (10 ∷ []) ≡ told (ended (line ++ encode_lower octets))
told-line line octets count is few =
    let text : List ℕ = ended (line ++ encode_lower octets) in
    let len : count ≡ length text = is ∙ sym (line-len line octets) in
    rw len (record-is 78 nobody text (rw len at few) ∙ sym (told-is (line ++ encode_lower octets)))
