-- The marks of a list of words, one at a time, and the first that isn't set.
use Rattle.std.proofs.Common.{◌≡◌, ℕ, ◌+◌, ◌-◌, ◌*◌, ◌/◌, ◌%◌, ◌^◌, ◌<◌, ◌≤◌, ◌≢◌, Bool, true, false, not, ◌&&◌, ◌||◌, cond, eqb, List, length, get_or, set as set_at, replicate, Some, None, w64, bit_and, bit_or, inl, inr, sym, ap, ◌∙◌, arith}
use Rattle.std.specs.Int.{bit_at, bit_not}
use Rattle.std.specs.List.{position, position_or_len}
use Rattle.std.proofs.lemmas.Bool.{eq-eqb, ne_eqb, eqb-true, eqb-false, cases_lt, cases_eq, not-true, not-false, lt-ltb}
use Rattle.std.proofs.lemmas.List.{get_or-set_other, length-replicate}
use Rattle.std.proofs.lemmas.Bool.Decides.{nat_tests}
use Rattle.std.proofs.lemmas.List.Quantifiers.{position-Some}
use Rattle.std.proofs.lemmas.List.Sums.{fails_before_first}
use Rattle.std.proofs.lemmas.Option.{none-some}
use Rattle.std.proofs.lemmas.Grind.{common_steps, get_or-set_at}
use Rattle.std.proofs.lemmas.Nat.Bits.{bit_at-zero, bit_at_above, bit_at_ones, bit_at_set_same, bit_at_set_other, bit_at_clear_same, bit_at_clear_other}
use Rattle.aid_pool.specs.Marks.{has_mark, has_clear_mark, IsFirstClear}

-- the mark of a number, 0 or 1
abbrev mark : List ℕ → ℕ → ℕ
mark words n = bit_at (get_or words (n / 64) 0) (n % 64)

-- ---- a word is written

-- a mark of that word
mark_in_word : (words : List ℕ) (place word q : ℕ) → q / 64 ≡ place → place < length words → mark (set_at words place word) q ≡ bit_at word (q % 64)
mark_in_word words place word q here within =
    ap (λ w. bit_at w (q % 64)) (get_or-set_at words place (q / 64) word 0 here within)

-- a mark of another
mark_beside : (words : List ℕ) (place word q : ℕ) → q / 64 ≢ place → mark (set_at words place word) q ≡ mark words q
mark_beside words place word q other = ap (λ w. bit_at w (q % 64)) (get_or-set_other words place (q / 64) word 0 other)

-- one mark of that word is the mark of number k after it, and the others are as before
one_mark : (words : List ℕ) (k word bit : ℕ) → k / 64 < length words → bit_at word (k % 64) ≡ bit → ((i : ℕ) → i < 64 → i ≢ k % 64 → bit_at word i ≡ bit_at (get_or words (k / 64) 0) i) → (q : ℕ) → mark (set_at words (k / 64) word) q ≡ cond (eqb q k) bit (mark words q)
one_mark words k word bit within is others q =
    let beside = others (q % 64) (omega arith) in
    grind (arith, nat_tests, get_or-set_at words (k / 64) (q / 64) word 0, get_or-set_other words (k / 64) (q / 64) word 0, beside)

or_marked : (b : Bool) (m : ℕ) → eqb (cond b 1 m) 1 ≡ (b || eqb m 1)
or_marked b m = grind arith

and_cleared : (b : Bool) (m : ℕ) → eqb (cond b 0 m) 1 ≡ (not b && eqb m 1)
and_cleared b m = grind arith

-- the mark of number k is set
pub marked : (words : List ℕ) (k : ℕ) → k / 64 < length words → (q : ℕ) → has_mark (set_at words (k / 64) (bit_or (get_or words (k / 64) 0) (1 * 2 ^ (k % 64) % 2 ^ 64))) q ≡ (eqb q k || has_mark words q)
marked words k within q =
    let word = get_or words (k / 64) 0 in
    let below : k % 64 < 64 = omega arith in
    let after = one_mark words k (bit_or word (1 * 2 ^ (k % 64) % 2 ^ 64)) 1 within (bit_at_set_same w64 word (k % 64) below) (λ i fits other. bit_at_set_other w64 word (k % 64) below i other) q in
    ap (λ m. eqb m 1) after ∙ or_marked (eqb q k) (mark words q)

-- the mark of number k is cleared
pub cleared : (words : List ℕ) (k : ℕ) → k / 64 < length words → (q : ℕ) → has_mark (set_at words (k / 64) (bit_and (get_or words (k / 64) 0) (bit_not w64 (1 * 2 ^ (k % 64) % 2 ^ 64)))) q ≡ (not (eqb q k) && has_mark words q)
cleared words k within q =
    let word = get_or words (k / 64) 0 in
    let below : k % 64 < 64 = omega arith in
    let after = one_mark words k (bit_and word (bit_not w64 (1 * 2 ^ (k % 64) % 2 ^ 64))) 0 within (bit_at_clear_same w64 word (k % 64) below) (λ i fits other. bit_at_clear_other w64 word (k % 64) below i fits other) q in
    ap (λ m. eqb m 1) after ∙ and_cleared (eqb q k) (mark words q)

-- ---- words of which no mark is set but that of number 0

mark-zeros : (n q : ℕ) → mark (replicate n 0) q ≡ 0
mark-zeros n q = let none : get_or {A = ℕ} (replicate n 0) (q / 64) 0 ≡ 0 = grind (arith, common_steps) in rw none (bit_at-zero (q % 64))

pub only_number_0 : (n q : ℕ) → 0 < n → 1 ≤ q → has_mark (set_at (replicate n 0) 0 1) q ≡ false
only_number_0 n q some other =
    ne_eqb _ 1 (λ is.
    let none : mark (set_at (replicate n 0) 0 1) q ≡ 0 = elim (cases_eq (q / 64) 0) [
      | inl first ↦ mark_in_word (replicate n 0) 0 1 q first (omega (arith, length-replicate {A = ℕ} n 0)) ∙ bit_at_above 1 1 (q % 64) (omega arith) (omega arith)
      | inr away ↦ mark_beside (replicate n 0) 0 1 q away ∙ mark-zeros n q
    ] in
    omega (arith, none, is))

pub number_0 : (n : ℕ) → 0 < n → has_mark (set_at (replicate n 0) 0 1) 0 ≡ true
number_0 n some =
    eq-eqb _ 1 (mark_in_word (replicate n 0) 0 1 0 (omega arith) (omega (arith, length-replicate {A = ℕ} n 0)))

-- ---- the first mark that isn't set

-- each mark of a full word is set
full : (words : List ℕ) (q : ℕ) → has_clear_mark (get_or words (q / 64) 0) ≡ false → has_mark words q ≡ true
full words q none =
    let all : get_or words (q / 64) 0 ≡ 2 ^ 64 - 1 = eqb-true _ _ (not-false _ none) in
    eq-eqb _ 1 (ap (λ w. bit_at w (q % 64)) all ∙ bit_at_ones 64 (q % 64) (omega arith))

pub first_is_clear : (words : List ℕ) (place ones : ℕ) → position has_clear_mark words ≡ Some place → ones < 64 → bit_at (get_or words place 0) ones ≡ 0 → ((k : ℕ) → k < ones → bit_at (get_or words place 0) k ≡ 1) → IsFirstClear words (64 * place + ones)
first_is_clear words place ones found few clear before_it =
    let at = position-Some has_clear_mark words place 0 found in
    let within = at.0 in
    let place_is : (64 * place + ones) / 64 ≡ place = omega arith in
    let bit_is : (64 * place + ones) % 64 ≡ ones = omega arith in
    record {
      within = omega arith;
      clear = ne_eqb _ 1 (λ is. omega (arith, is, ap (λ p. bit_at (get_or words p 0) ((64 * place + ones) % 64)) place_is, ap (λ k. bit_at (get_or words place 0) k) bit_is, clear));
      before = λ m below. elim (cases_lt (m / 64) place) [
        | inl earlier ↦ full words m (at.2 (m / 64) earlier)
        | inr here ↦
            let m_place : m / 64 ≡ place = omega arith in
            eq-eqb _ 1 (ap (λ p. bit_at (get_or words p 0) (m % 64)) m_place ∙ before_it (m % 64) (omega arith))
      ];
    }

-- a word that has a mark that isn't set is not full
pub not_full : (words : List ℕ) (place : ℕ) → position has_clear_mark words ≡ Some place → (place < length words) × (get_or words place 0 ≢ 2 ^ 64 - 1)
not_full words place found =
    let at = position-Some has_clear_mark words place 0 found in
    (at.0, eqb-false _ _ (not-true _ at.1))

none_first : (words : List ℕ) → position has_clear_mark words ≡ None → length words ≤ position_or_len has_clear_mark words
none_first words none =
    let first = position_or_len has_clear_mark words in
    elim (cases_lt first (length words)) [
      | inl found ↦ absurd (none-some first (sym none ∙ ap (λ b. cond b (Some first) None) (lt-ltb first (length words) found)))
      | inr past ↦ past
    ]

-- where no word has one, each mark is set
pub all_are_set : (words : List ℕ) → position has_clear_mark words ≡ None → (q : ℕ) → q < 64 * length words → has_mark words q ≡ true
all_are_set words none q within =
    let past = none_first words none in
    full words q (fails_before_first has_clear_mark words (q / 64) 0 (omega arith))
