-- Texts of digits, with spaces among them or none.
use Rattle.std.proofs.Common.{◌≡◌, ◌≢◌, ◌∙◌, ◌+◌, ◌%◌, ◌≤◌, ◌<◌, ◌-◌, ℕ, Bool, true, false, List, [], ◌∷◌, length, take, drop}
use Rattle.std.proofs.Common.{Result, Ok, Err, refl, sym, ap, subst, inl, inr, arith}
use Rattle.std.specs.List.{AllPass}
use Rattle.std.specs.Prelude.{not, IsErr, slice_index, if◌then◌else◌}
use Rattle.std.proofs.lemmas.Bool.{cases_eq, ne_eqb, lt-ltb, le-ltb}
use Rattle.std.proofs.lemmas.List.{length-take, take_rest}
use Rattle.std.proofs.lemmas.List.Elements.{All-cons, All-head, All-nil, All-tail}
use Rattle.hex.specs.Hex.{decode_of, is_hex_digit}
use Rattle.hex.specs.declared.error.FromHexError.{FromHexError}
use Rattle.hex.proofs.HexLemmas.{decode_of-ok, decode_of-digits}
use Rattle.trace.specs.TraceText.{is_space, digits_of, octets_of, within_limit}
use Rattle.trace.specs.declared.fault.LineFault.TheVariants.{NotHexadecimal, TooMany}

-- ---- digits alone

-- a digit is no space
no_space : (x : ℕ) → is_hex_digit x ≡ true → is_space x ≡ false
no_space x digit =
    elim (cases_eq x 32) [
      | inl space ↦ cc (rw space at digit)
      | inr other ↦ ne_eqb x 32 other
    ]

abbrev digit_holds : ℕ → Type 0
digit_holds x = is_hex_digit x ≡ true

-- of a text of digits none is taken out
digits_of_all : (text : List ℕ) → AllPass is_hex_digit text → digits_of text ≡ text
digits_of_all [] digits = refl
digits_of_all (x ∷ xs) digits =
    rw (no_space x (All-head digit_holds x xs digits)) (ap (λ (rest : List ℕ). x ∷ rest) (digits_of_all xs (All-tail digit_holds x xs digits)))

-- octets that are no more than a line may have
pub few_octets : (octets : List ℕ) → length octets ≤ 4096 → within_limit (Ok octets) ≡ Ok octets
few_octets octets few = rw (le-ltb 4096 (length octets) few) refl

-- a text that spells octets spells them with no space taken out
spelled : (text octets : List ℕ) → decode_of text ≡ Ok octets → length octets ≤ 4096 → octets_of text ≡ Ok octets
spelled text octets e few =
    ap (λ (t : List ℕ). within_limit (decode_of t)) (digits_of_all text (decode_of-ok text octets e).1)
    ∙ ap within_limit e
    ∙ few_octets octets few

-- those at the front of a piece of memory
pub spelled_front : (text memory : List ℕ) (n : ℕ) → decode_of text ≡ Ok (take n memory) → n ≤ 4096
    → octets_of text ≡ Ok (take n memory)
spelled_front text memory n e few =
    spelled text (take n memory) e (omega (arith, few, length-take n memory))

-- ---- spaces among digits

-- another character may be one
pub one_digit : (character : ℕ) (rest : List ℕ) → character ≢ 32
    → digits_of (character ∷ rest) ≡ character ∷ digits_of rest
one_digit character rest other = rw (ne_eqb character 32 other) refl

-- ---- more digits than a line may have

-- what a text spells of which not all are digits, or whose digits are an odd number
pub no_octets : (text : List ℕ) → IsErr (decode_of (digits_of text)) → octets_of text ≡ Err NotHexadecimal
no_octets text err = refused (decode_of (digits_of text)) err
  where
    refused : (read : Result (List ℕ) FromHexError) → IsErr read → within_limit read ≡ Err NotHexadecimal
    refused (Ok octets) err = cc err
    refused (Err fault) err = refl

-- A text was looked at up to this rest of it: all that came are digits, of an odd number or not.
pub record LookedAt (text rest : List ℕ) (is_odd : Bool) : Type 0 where
  pub digits : AllPass is_hex_digit (digits_of rest) → AllPass is_hex_digit (digits_of text)
  pub back : AllPass is_hex_digit (digits_of text) → AllPass is_hex_digit (digits_of rest)
  pub count : length (digits_of text) % 2 ≡ (length (digits_of rest) + (if is_odd then 1 else 0)) % 2

pub look_more : (text : List ℕ) (character : ℕ) (rest : List ℕ) (is_odd : Bool) → LookedAt text (character ∷ rest) is_odd
    → character ≢ 32 → is_hex_digit character ≡ true → LookedAt text rest (not is_odd)
look_more text character rest is_odd s other digit =
    let same = one_digit character rest other in
    record {
      digits = λ all. s.digits (rw same (All-cons digit_holds character (digits_of rest) digit all));
      back = λ all. All-tail digit_holds character (digits_of rest) (rw same at (s.back all));
      count = s.count ∙ ap (λ (ds : List ℕ). (length ds + (if is_odd then 1 else 0)) % 2) same ∙ next is_odd;
    }
  where
    next : (b : Bool) → (length (character ∷ digits_of rest) + (if b then 1 else 0)) % 2
        ≡ (length (digits_of rest) + (if not b then 1 else 0)) % 2
    next true = omega arith
    next false = omega arith

-- a character that is no digit
pub look_other : (text : List ℕ) (character : ℕ) (rest : List ℕ) (is_odd : Bool) → LookedAt text (character ∷ rest) is_odd
    → character ≢ 32 → is_hex_digit character ≡ false → octets_of text ≡ Err NotHexadecimal
look_other text character rest is_odd s other lacks = no_octets text (by (decode_of (digits_of text)) refl)
  where
    by : (read : Result (List ℕ) FromHexError) → decode_of (digits_of text) ≡ read → IsErr read
    by (Ok octets) is =
        let all = s.back (decode_of-ok (digits_of text) octets is).1 in
        let here = All-head digit_holds character (digits_of rest)
        (subst (AllPass is_hex_digit) (one_digit character rest other) all) in
        cc (sym lacks ∙ here)
    by (Err fault) is = refl

pub look_even : (text rest : List ℕ) (is_odd : Bool) → LookedAt text rest is_odd → length rest < 1 → is_odd ≡ false
    → 8192 < length (digits_of text) → octets_of text ≡ Err TooMany
look_even text [] true s end even many = cc even
look_even text [] false s end even many =
    let count = s.count in
    let read = decode_of-digits (digits_of text) (omega (arith, count)) (s.digits (All-nil digit_holds)) in
    let twice = (decode_of-ok (digits_of text) read.0 read.1).2 in
    ap within_limit read.1
    ∙ rw (lt-ltb 4096 (length read.0) (omega (arith, many, twice))) refl
look_even text (x ∷ xs) is_odd s end even many = absurd (omega (arith, end))

-- a digit is the first of what is left
pub look_first : (text rest : List ℕ) (is_odd : Bool) → LookedAt text rest is_odd → 1 ≤ length rest
    → slice_index rest 0 ≢ 32 → is_hex_digit (slice_index rest 0) ≡ true
    → LookedAt text (take (length rest - 1) (drop 1 rest)) (not is_odd)
look_first text [] is_odd s some other digit = absurd (omega (arith, some))
look_first text (x ∷ xs) is_odd s some other digit =
    subst (λ (r : List ℕ). LookedAt text r (not is_odd)) (sym (take_rest (x ∷ xs) 1))
    (look_more text x xs is_odd s other digit)
