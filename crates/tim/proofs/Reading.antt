-- The tests by which a TIM is read are met exactly by what shows something.
use Rattle.std.proofs.Common.{◌≡◌, ◌==◌, ◌↔◌, ◌⊎◌, ℕ, zero, suc, ◌+◌, ◌-◌, ◌*◌, ◌/◌, ◌%◌, ◌<◌, ◌≤◌, Bool, true, false, ◌&&◌, nat_lt, IsTrue, List, [], ◌∷◌, length, get_or, refl, sym, ◌∙◌, subst, inl, inr, ⊎_elim, arith}
use Rattle.std.specs.Int.{bit_at, from_bool}
use Rattle.std.proofs.lemmas.Bool.{cases_lt, le-leb, leb-true, lt-ltb, ltb-true, eqb-true, eq-eqb, and_parts, and_from, or_cases, or_left, or_right, not-true, not_from_true, false≢true}
use Rattle.std.proofs.lemmas.Bool.Decides.{nat_tests}
use Rattle.std.proofs.lemmas.Nat.Bits.{bit_at_lowest}
use Rattle.tim.specs.Tim.{IsAid, first_place, HasNumber, ShowsTim, tim_id}
use Rattle.tim.specs.Spelling.{is_placed, is_trimmed, is_spelled}
use Rattle.tim.proofs.Spelling.{IsUsed, IsSpelled, shows}

-- ---- one number

-- number 0 is the lowest bit of the octet at place 0
pub has_0 : (octets : List ℕ) → 1 ≤ length octets → get_or octets 0 0 % 2 ≡ 1 → HasNumber 0 octets 0
has_0 octets some odd = record { from = omega arith; to = omega arith; bit = bit_at_lowest (get_or octets 0 0) ∙ odd }

pub odd_from_0 : (first : ℕ) (octets : List ℕ) → HasNumber first octets 0 → (first ≡ 0) × (get_or octets 0 0 % 2 ≡ 1)
odd_from_0 first octets w =
    let none : first ≡ 0 = omega (arith, w.from) in
    let here : HasNumber 0 octets 0 = subst (λ f. HasNumber f octets 0) none w in
    (none, sym (bit_at_lowest (get_or octets 0 0)) ∙ here.bit)

-- ---- where the octets stand

pub placed-no_number_0 : (first : ℕ) (octets : List ℕ) → is_placed first octets ≡ true → ¬ HasNumber first octets 0
placed-no_number_0 first octets test w =
    let odd = odd_from_0 first octets w in
    ⊎_elim
    (λ later. omega (arith, ltb-true 0 first later, odd.0))
    (λ even. omega (arith, eqb-true (get_or octets 0 0 % 2) 0 even, odd.1))
    (or_cases _ _ (and_parts _ _ test).1)

pub placed-from : (first : ℕ) (octets : List ℕ) → 1 ≤ length octets → first + length octets ≤ 251 → ¬ HasNumber first octets 0 → is_placed first octets ≡ true
placed-from first octets some within no_number_0 =
    and_from _ _ (and_from _ _ (lt-ltb 0 (length octets) some) (le-leb (first + length octets) 251 within))
    (⊎_elim
    (λ none. or_right _ _ (⊎_elim
    (λ even. let zero_is : get_or octets 0 0 % 2 ≡ 0 = omega arith in eq-eqb (get_or octets 0 0 % 2) 0 zero_is)
    (λ more.
    let odd : get_or octets 0 0 % 2 ≡ 1 = omega arith in
    let first_is : 0 ≡ first = omega arith in
    absurd (no_number_0 (subst (λ f. HasNumber f octets 0) first_is (has_0 octets some odd))))
    (cases_lt (get_or octets 0 0 % 2) 1)))
    (λ more. or_left _ _ (lt-ltb 0 first more))
    (cases_lt first 1))

-- ---- which octets are sent

-- one octet that is 0
one_zero : (octets : List ℕ) → length octets ≡ 1 → get_or octets (length octets - 1) 0 ≡ 0 → octets ≡ 0 ∷ []
one_zero [] one last = absurd (omega arith)
one_zero (zero ∷ []) one last = refl
one_zero (suc o ∷ []) one last = absurd (omega arith)
one_zero (o ∷ p ∷ os) one last = absurd (omega arith)

-- octets that begin with two zeros
begins_zero : (octets : List ℕ) → (nat_lt 1 (length octets) && get_or octets 0 0 == 0 && get_or octets 1 0 == 0) ≡ false → 2 ≤ length octets → 0 < get_or octets 0 0 + get_or octets 1 0
begins_zero octets test two = ⊎_elim
    (λ none.
    let first : get_or octets 0 0 ≡ 0 = omega arith in
    let second : get_or octets 1 0 ≡ 0 = omega arith in
    absurd (false≢true (sym test ∙ and_from _ _ (and_from _ _ (lt-ltb 1 (length octets) two) (eq-eqb _ 0 first)) (eq-eqb _ 0 second))))
    (λ more. more)
    (cases_lt (get_or octets 0 0 + get_or octets 1 0) 1)

pub trimmed-used : (first : ℕ) (octets : List ℕ) → 1 ≤ length octets → is_trimmed first octets ≡ true → IsUsed octets ⊎ ((first ≡ 0) × (octets ≡ 0 ∷ []))
trimmed-used first octets some test =
    let parts = and_parts _ _ test in
    ⊎_elim
    (λ none.
    let last : get_or octets (length octets - 1) 0 ≡ 0 = omega arith in
    ⊎_elim
    (λ other. absurd (false≢true (sym (not_from_true _ (eq-eqb (get_or octets (length octets - 1) 0) 0 last)) ∙ other)))
    (λ one.
    let both = and_parts _ _ one in
    inr (eqb-true first 0 both.0, one_zero octets (eqb-true (length octets) 1 both.1) last))
    (or_cases _ _ parts.0))
    (λ more. inl (record { ends = more; begins = begins_zero octets (not-true _ parts.1) }))
    (cases_lt (get_or octets (length octets - 1) 0) 1)

-- ---- all of it

pub spelled-from_test : (count period control : ℕ) (octets : List ℕ) → ((place : ℕ) → get_or octets place 0 < 256) → is_spelled count period control octets ≡ true → (count < period) × (bit_at control 0 ≡ 1 → count ≡ 0) × IsSpelled (first_place control) octets
spelled-from_test count period control octets in_octets test =
    let trimmed = and_parts _ _ test in
    let placed = and_parts _ _ trimmed.0 in
    let at_0 = and_parts _ _ placed.0 in
    let within = and_parts _ _ (and_parts _ _ placed.1).0 in
    let some = ltb-true 0 (length octets) within.0 in (
      ltb-true count period at_0.0,
      λ bit. ⊎_elim
          (λ even. absurd (omega (arith, eqb-true (control % 2) 0 even, sym (bit_at_lowest control) ∙ bit)))
          (λ zero_is. eqb-true count 0 zero_is)
          (or_cases _ _ at_0.1),
      record {
        some = some;
        within = leb-true (first_place control + length octets) 251 within.1;
        in_octets = in_octets;
        no_number_0 = placed-no_number_0 (first_place control) octets placed.1;
        used = trimmed-used (first_place control) octets some trimmed.1;
      },
    )

-- ---- a whole element

-- the lowest bit, as a truth value
lowest_bit : (control : ℕ) → bit_at control 0 ≡ from_bool (control % 2 == 1)
lowest_bit control = bit_at_lowest control ∙ grind (arith, nat_tests)

-- what passes the tests shows the numbers that its octets have
pub read_shows : (t : List ℕ) (count period control half : ℕ) (octets : List ℕ) (members : ℕ → Bool) → t ≡ tim_id ∷ (length octets + 3) ∷ count ∷ period ∷ control ∷ octets → ((place : ℕ) → get_or t place 0 < 256) → is_spelled count period control octets ≡ true → half ≡ control / 2 → ((n : ℕ) → IsTrue (members n) ↔ HasNumber (2 * half) octets n) → ShowsTim t count period (control % 2 == 1) members
read_shows t count period control half octets members string in_t test half_is numbers =
    let fields = tim_id ∷ (length octets + 3) ∷ count ∷ period ∷ control ∷ octets in
    let in_fields : (place : ℕ) → get_or fields place 0 < 256 = subst (λ u. (place : ℕ) → get_or u place 0 < 256) string in_t in
    let s = spelled-from_test count period control octets (λ place. in_fields (suc (suc (suc (suc (suc place)))))) test in
    let at_0 : IsTrue (control % 2 == 1) → count ≡ 0 = λ group. s.1 (bit_at_lowest control ∙ eqb-true (control % 2) 1 group) in
    let in_control : (n : ℕ) → IsTrue (members n) ↔ HasNumber (first_place control) octets n = subst (λ h. (n : ℕ) → IsTrue (members n) ↔ HasNumber (2 * h) octets n) half_is numbers in
    subst (λ u. ShowsTim u count period (control % 2 == 1) members) (sym string)
    (shows count period control (control % 2 == 1) octets members s.0 (in_fields 3) (in_fields 4) (lowest_bit control) at_0 s.2 (λ n aid. in_control n))

-- the numbers that octets have are association identifiers
pub has-aid : (first : ℕ) (octets : List ℕ) (n : ℕ) → first + length octets ≤ 251 → ¬ HasNumber first octets 0 → HasNumber first octets n → IsAid n
has-aid first octets n within no_number_0 w = (
  ⊎_elim
      (λ none. let zero_is : n ≡ 0 = omega arith in absurd (no_number_0 (subst (λ m. HasNumber first octets m) zero_is w)))
      (λ some. some)
      (cases_lt n 1),
  omega (arith, w.to),
)
