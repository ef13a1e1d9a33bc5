-- The first bit of a list of words that is set, from a place on.
use Rattle.std.proofs.Common.{◌≡◌, ℕ, ◌+◌, ◌-◌, ◌*◌, ◌/◌, ◌%◌, ◌^◌, ◌<◌, ◌≤◌, true, false, List, length, get_or, inl, inr, sym, ap, ◌∙◌, arith}
use Rattle.std.specs.Int.{bit_at}
use Rattle.std.proofs.Math.Nat.{div-div-eq-div-mul}
use Rattle.std.proofs.lemmas.Nat.{pow-add}
use Rattle.std.proofs.lemmas.Nat.Bits.{bit_at_above, bit_at-zero}
use Rattle.std.proofs.lemmas.List.{get_or_past}
use Rattle.std.proofs.lemmas.Bool.{eq-eqb, ne_eqb, cases_lt}
use Rattle.downlink.specs.Ready.{has_bit, IsFirstFrom}

-- no bit is set from a place on, as far as this word
abbrev pub IsClearBefore : List ℕ → (from word : ℕ) → Type 0
IsClearBefore words from word = (p : ℕ) → from ≤ p → p / 64 < word → has_bit words p ≡ false

-- ---- a bit by its word

set_there : (words : List ℕ) (place w k : ℕ) → place / 64 ≡ w → place % 64 ≡ k → bit_at (get_or words w 0) k ≡ 1 → has_bit words place ≡ true
set_there words place w k word bit is =
    eq-eqb _ 1 (ap (λ n. bit_at (get_or words n 0) (place % 64)) word ∙ ap (λ n. bit_at (get_or words w 0) n) bit ∙ is)

clear_there : (words : List ℕ) (place w k : ℕ) → place / 64 ≡ w → place % 64 ≡ k → bit_at (get_or words w 0) k ≡ 0 → has_bit words place ≡ false
clear_there words place w k word bit none =
    let is : bit_at (get_or words (place / 64) 0) (place % 64) ≡ 0 = ap (λ n. bit_at (get_or words n 0) (place % 64)) word ∙ ap (λ n. bit_at (get_or words w 0) n) bit ∙ none in
    ne_eqb _ 1 (λ one. omega (arith, one, is))

shifted : (n k i : ℕ) → bit_at (n / 2 ^ k) i ≡ bit_at n (k + i)
shifted n k i =
    ap (λ m. m % 2) (div-div-eq-div-mul n (2 ^ k) (2 ^ i) ∙ ap (λ m. n / m) (sym (pow-add 2 k i)))

-- ---- the word in which the search begins

pub first_at_once : (words : List ℕ) (from bit : ℕ) → get_or words (from / 64) 0 < 2 ^ 64
    → bit_at (get_or words (from / 64) 0 / 2 ^ (from % 64)) bit ≡ 1
    → ((i : ℕ) → i < bit → bit_at (get_or words (from / 64) 0 / 2 ^ (from % 64)) i ≡ 0)
    → IsFirstFrom from (has_bit words) (from + bit)
first_at_once words from bit fits this lower =
    let word : ℕ = get_or words (from / 64) 0 in
    let here : bit_at word (from % 64 + bit) ≡ 1 = sym (shifted word (from % 64) bit) ∙ this in
    let within : from % 64 + bit < 64 = elim (cases_lt (from % 64 + bit) 64) [
      | inl below ↦ below
      | inr above ↦ absurd (omega (arith, here, bit_at_above word 64 (from % 64 + bit) fits above))
    ] in
    record {
      not_before = omega arith;
      passes = set_there words (from + bit) (from / 64) (from % 64 + bit) (omega arith) (omega arith) here;
      others = λ p after before. clear_there words p (from / 64) (from % 64 + (p - from)) (omega arith) (omega arith)
          (sym (shifted word (from % 64) (p - from)) ∙ lower (p - from) (omega arith));
    }

pub none_at_once : (words : List ℕ) (from : ℕ) → get_or words (from / 64) 0 / 2 ^ (from % 64) ≡ 0 → IsClearBefore words from (from / 64 + 1)
none_at_once words from none p after before =
    let word : ℕ = get_or words (from / 64) 0 in
    clear_there words p (from / 64) (from % 64 + (p - from)) (omega arith) (omega arith)
    (sym (shifted word (from % 64) (p - from)) ∙ ap (λ n. bit_at n (p - from)) none ∙ bit_at-zero (p - from))

-- ---- those behind it

pub none_here : (words : List ℕ) (from word : ℕ) → IsClearBefore words from word → get_or words word 0 ≡ 0 → IsClearBefore words from (word + 1)
none_here words from word clear none p after before =
    elim (cases_lt (p / 64) word) [
      | inl earlier ↦ clear p after earlier
      | inr here ↦ clear_there words p word (p % 64) (omega arith) (omega arith) (ap (λ n. bit_at n (p % 64)) none ∙ bit_at-zero (p % 64))
    ]

pub first_here : (words : List ℕ) (from word bit : ℕ) → IsClearBefore words from word → from / 64 < word → bit < 64
    → bit_at (get_or words word 0) bit ≡ 1 → ((i : ℕ) → i < bit → bit_at (get_or words word 0) i ≡ 0)
    → IsFirstFrom from (has_bit words) (64 * word + bit)
first_here words from word bit clear later within this lower =
    record {
      not_before = omega arith;
      passes = set_there words (64 * word + bit) word bit (omega arith) (omega arith) this;
      others = λ p after before. elim (cases_lt (p / 64) word) [
        | inl earlier ↦ clear p after earlier
        | inr here ↦ clear_there words p word (p % 64) (omega arith) (omega arith) (lower (p % 64) (omega arith))
      ];
    }

pub none_at_all : (words : List ℕ) (from word : ℕ) → IsClearBefore words from word → length words ≤ word → (p : ℕ) → from ≤ p → has_bit words p ≡ false
none_at_all words from word clear past p after =
    elim (cases_lt (p / 64) word) [
      | inl earlier ↦ clear p after earlier
      | inr later ↦ clear_there words p (p / 64) (p % 64) (omega arith) (omega arith)
          (ap (λ n. bit_at n (p % 64)) (get_or_past words (p / 64) 0 (omega arith)) ∙ bit_at-zero (p % 64))
    ]
