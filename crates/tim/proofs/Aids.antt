-- Sets of association identifiers by the tests that they answer, and by the octets of their virtual bitmap.
use Rattle.std.proofs.Common.{◌≡◌, ◌↔◌, IsTrue, ◌==◌, ℕ, zero, suc, ◌+◌, ◌*◌, ◌/◌, ◌%◌, ◌^◌, ◌<◌, ◌≤◌, ◌≢◌, Bool, false, not, ◌&&◌, ◌||◌, cond, nat_le, nat_eq, filter, List, length, get_or, set, take, drop, ◌++◌, replicate, w8, bit_and, bit_or, refl, sym, ap, ◌∙◌, arith}
use Rattle.std.specs.Int.{bit_at, bit_not, from_bool}
use Rattle.std.specs.List.{range_with_len, list_any}
use Rattle.std.specs.Ordering.{nat_cmp}
use Rattle.std.specs.Cmp.{nat_cmp_total, unsigned_tied}
use Rattle.std.specs.FinSet.{FinSet, contains, insert, remove, empty, contains-from_list_nat, contains-insert, contains-remove, contains-empty, same_set, nat_cmp-IsAntisymmetric}
use Rattle.std.proofs.lemmas.Bool.{and_parts, leb-true, eqb-true, eq-eqb, ne_eqb, le-leb, and_right}
use Rattle.std.proofs.lemmas.List.{places, get_or-set_other}
use Rattle.std.proofs.lemmas.Bool.Decides.{nat_tests}
use Rattle.std.proofs.lemmas.Map.Views.{any-filter_same}
use Rattle.std.proofs.lemmas.Grind.{common_steps, get_or-set_at}
use Rattle.std.proofs.lemmas.Nat.Bits.{bit_at-zero, bit_at-lt, bit_at_set_same, bit_at_set_other, bit_at_clear_same, bit_at_clear_other, same_from_bits_below}
use Rattle.tim.specs.Tim.{max_aid, IsAid, HasNumber, is_shown, virtual_bitmap}
use Rattle.tim.specs.Bitmap.{aids_where, has_bit, sent_at}
use Rattle.tim.proofs.Octets.{bit_at-octet_at, octet_at-lt, virtual_bitmap-from}
use Rattle.tim.proofs.Spelling.{sent_at-has, has-sent_at}
use Rattle.tim.proofs.Reading.{has-aid}

-- a list of numbers in a row has those between its ends
list_any-range : (q a n : ℕ) → list_any (λ y. nat_eq y q) (range_with_len a n) ≡ (nat_le a q && nat_le (suc q) (a + n))
list_any-range q a zero = grind (arith, nat_tests)
list_any-range q a (suc n) = grind (arith, nat_tests, list_any-range q (a + 1) n)

and_swap : (a b c : Bool) → (c && (a && b)) ≡ (a && b && c)
and_swap a b c = grind arith

le-suc : (q m : ℕ) → nat_le (suc q) (1 + m) ≡ nat_le q m
le-suc q m = grind (arith, nat_tests)

-- the set has the association identifiers that pass
pub contains-aids_where : (members : ℕ → Bool) (q : ℕ) → contains (aids_where members) q ≡ is_shown members q
unfolding aids_where
contains-aids_where members q =
    contains-from_list_nat (filter members (range_with_len 1 max_aid)) q
    ∙ any-filter_same (λ y. nat_eq y q) members (members q) (λ k same. ap members (eqb-true k q same)) (range_with_len 1 max_aid)
    ∙ ap (λ b. members q && b) (list_any-range q 1 max_aid)
    ∙ ap (λ b. members q && (nat_le 1 q && b)) (le-suc q max_aid)
    ∙ and_swap (nat_le 1 q) (nat_le q max_aid) (members q)

-- a set is that of the numbers that pass, where it has them
pub same_aids : (members : ℕ → Bool) (s : FinSet nat_cmp) → ((q : ℕ) → is_shown members q ≡ contains s q) → aids_where members ≡ s
same_aids members s same = same_set nat_cmp_total nat_cmp-IsAntisymmetric (aids_where members) s (λ q. contains-aids_where members q ∙ same q)

-- ---- the set of the numbers that pass a test

-- what is shown at an association identifier
shown_at : (members : ℕ → Bool) (q : ℕ) → 1 ≤ q → q ≤ max_aid → is_shown members q ≡ members q
shown_at members q least greatest = rw (le-leb 1 q least, le-leb q max_aid greatest) refl

pub contains-aid : (members : ℕ → Bool) (aid : ℕ) → 1 ≤ aid → aid ≤ max_aid → contains (aids_where members) aid ≡ members aid
contains-aid members aid least greatest = contains-aids_where members aid ∙ shown_at members aid least greatest

-- the set has no other number
pub aids_where-aid : (members : ℕ → Bool) (n : ℕ) → IsTrue (contains (aids_where members) n) → IsAid n
aids_where-aid members n member =
    let parts = and_parts _ _ (sym (contains-aids_where members n) ∙ member) in
    let both = and_parts _ _ parts.0 in
    (leb-true 1 n both.0, leb-true n max_aid both.1)

-- no number passes
pub aids_where-none : (members : ℕ → Bool) → ((q : ℕ) → members q ≡ false) → aids_where members ≡ empty
aids_where-none members none = same_aids members empty
    (λ q. and_right _ _ (none q) ∙ sym (contains-empty nat_cmp q))

-- a set after a change, at one number and at the others
insert_at : (q k : ℕ) (s : FinSet nat_cmp) → contains (insert s k) q ≡ (q == k || contains s q)
insert_at q k s = contains-insert nat_cmp_total s k q ∙ ap (λ b. b || contains s q) (unsigned_tied q k)

remove_at : (q k : ℕ) (s : FinSet nat_cmp) → contains (remove s k) q ≡ (not (q == k) && contains s q)
remove_at q k s = contains-remove nat_cmp_total s k q ∙ ap (λ b. not b && contains s q) (unsigned_tied q k)

-- one number more passes
pub aids_where-insert : (members more : ℕ → Bool) (aid : ℕ) → 1 ≤ aid → aid ≤ max_aid → ((q : ℕ) → more q ≡ (q == aid || members q)) → aids_where more ≡ insert (aids_where members) aid
aids_where-insert members more aid least greatest is = same_aids more (insert (aids_where members) aid)
    (λ q. grind (arith, nat_tests, is q, insert_at q aid (aids_where members), contains-aids_where members q))

-- one number less passes
pub aids_where-remove : (members less : ℕ → Bool) (aid : ℕ) → 1 ≤ aid → aid ≤ max_aid → ((q : ℕ) → less q ≡ (not (q == aid) && members q)) → aids_where less ≡ remove (aids_where members) aid
aids_where-remove members less aid least greatest is = same_aids less (remove (aids_where members) aid)
    (λ q. grind (arith, nat_tests, is q, remove_at q aid (aids_where members), contains-aids_where members q))

-- ---- the bits of octets

-- the bit of a number
abbrev bit_of : List ℕ → ℕ → ℕ
bit_of octets n = bit_at (get_or octets (n / 8) 0) (n % 8)

-- one bit of that octet is the bit of number k after it, and the others are as before
one_bit : (octets : List ℕ) (k octet bit : ℕ) → k / 8 < length octets → bit_at octet (k % 8) ≡ bit → ((i : ℕ) → i < 8 → i ≢ k % 8 → bit_at octet i ≡ bit_at (get_or octets (k / 8) 0) i) → (q : ℕ) → bit_of (set octets (k / 8) octet) q ≡ cond (q == k) bit (bit_of octets q)
one_bit octets k octet bit within is others q =
    let beside = others (q % 8) (omega arith) in
    grind (arith, nat_tests, get_or-set_at octets (k / 8) (q / 8) octet 0, get_or-set_other octets (k / 8) (q / 8) octet 0, beside)

bit_or_set : (b : Bool) (m : ℕ) → (cond b 1 m == 1) ≡ (b || m == 1)
bit_or_set b m = grind arith

bit_and_clear : (b : Bool) (m : ℕ) → (cond b 0 m == 1) ≡ (not b && m == 1)
bit_and_clear b m = grind arith

-- the bit of number k is set
pub has_bit-set : (octets : List ℕ) (k : ℕ) → k / 8 < length octets → (q : ℕ) → has_bit (set octets (k / 8) (bit_or (get_or octets (k / 8) 0) (1 * 2 ^ (k % 8) % 2 ^ 8))) q ≡ (q == k || has_bit octets q)
has_bit-set octets k within q =
    let octet = get_or octets (k / 8) 0 in
    let below : k % 8 < 8 = omega arith in
    let after = one_bit octets k (bit_or octet (1 * 2 ^ (k % 8) % 2 ^ 8)) 1 within (bit_at_set_same w8 octet (k % 8) below) (λ i fits other. bit_at_set_other w8 octet (k % 8) below i other) q in
    ap (λ m. m == 1) after ∙ bit_or_set (q == k) (bit_of octets q)

-- the bit of number k is cleared
pub has_bit-clear : (octets : List ℕ) (k : ℕ) → k / 8 < length octets → (q : ℕ) → has_bit (set octets (k / 8) (bit_and (get_or octets (k / 8) 0) (bit_not w8 (1 * 2 ^ (k % 8) % 2 ^ 8)))) q ≡ (not (q == k) && has_bit octets q)
has_bit-clear octets k within q =
    let octet = get_or octets (k / 8) 0 in
    let below : k % 8 < 8 = omega arith in
    let after = one_bit octets k (bit_and octet (bit_not w8 (1 * 2 ^ (k % 8) % 2 ^ 8))) 0 within (bit_at_clear_same w8 octet (k % 8) below) (λ i fits other. bit_at_clear_other w8 octet (k % 8) below i fits other) q in
    ap (λ m. m == 1) after ∙ bit_and_clear (q == k) (bit_of octets q)

pub get_or-zeros : (n i : ℕ) → get_or {A = ℕ} (replicate n 0) i 0 ≡ 0
get_or-zeros n i = grind (arith, common_steps)

-- octets that are all 0 have no bit
pub has_bit-zeros : (n q : ℕ) → has_bit (replicate n 0) q ≡ false
has_bit-zeros n q = rw (get_or-zeros n (q / 8), bit_at-zero (q % 8)) refl

-- ---- the virtual bitmap

from_bit : (bit : ℕ) → bit < 2 → from_bool (bit == 1) ≡ bit
from_bit bit below = grind (arith, nat_tests)

-- a number of the virtual bitmap is shown where its bit is 1
shown_by : (octets : List ℕ) (n : ℕ) → has_bit octets 0 ≡ false → n ≤ max_aid → is_shown (contains (aids_where (has_bit octets))) n ≡ has_bit octets n
shown_by octets zero none most = sym none
shown_by octets (suc n) none most =
    let least : 1 ≤ suc n = omega arith in
    shown_at (contains (aids_where (has_bit octets))) (suc n) least most ∙ contains-aid (has_bit octets) (suc n) least most

-- the octets are those of the virtual bitmap of their set
pub octets-virtual_bitmap : (octets : List ℕ) → length octets ≡ 251 → ((place : ℕ) → get_or octets place 0 < 2 ^ 8) → has_bit octets 0 ≡ false → octets ≡ virtual_bitmap (contains (aids_where (has_bit octets)))
octets-virtual_bitmap octets long fit none = virtual_bitmap-from _ octets long (λ place below.
    same_from_bits_below 8 (get_or octets place 0) _ (fit place) (octet_at-lt _ place) (λ k k_below.
    let place_is : (8 * place + k) / 8 ≡ place = omega arith in
    let bit_is : (8 * place + k) % 8 ≡ k = omega arith in
    ap (λ j. bit_at (get_or octets place 0) j) (sym bit_is)
    ∙ ap (λ p. bit_at (get_or octets p 0) ((8 * place + k) % 8)) (sym place_is)
    ∙ sym (from_bit (bit_of octets (8 * place + k)) (bit_at-lt _ _))
    ∙ ap from_bool (sym (shown_by octets (8 * place + k) none (omega arith)))
    ∙ sym (bit_at-octet_at _ place k k_below)))

-- ---- octets that stand from a place on

-- octets that are written into others, all of them 0, from a place on
pub get_or-placed : (zeros : List ℕ) (first k : ℕ) (octets written : List ℕ) → ((i : ℕ) → get_or zeros i 0 ≡ 0) → first + k ≤ length zeros → length octets ≡ k → written ≡ octets → (place : ℕ) → get_or (take first zeros ++ (written ++ drop k (drop first zeros))) place 0 ≡ sent_at first octets place
get_or-placed zeros first k octets written none within whole is place = rw is (grind (arith, places, nat_tests, none, whole))

-- the numbers that they have
pub aids_where-octets : (all : List ℕ) (first : ℕ) (octets : List ℕ) → first + length octets ≤ 251 → ¬ HasNumber first octets 0 → ((place : ℕ) → get_or all place 0 ≡ sent_at first octets place) → (n : ℕ) → IsTrue (contains (aids_where (has_bit all)) n) ↔ HasNumber first octets n
aids_where-octets all first octets within no_number_0 same n = (
  λ member.
      let aid = aids_where-aid (has_bit all) n member in
      has-sent_at first octets n
      (ap (λ o. bit_at o (n % 8)) (sym (same (n / 8))) ∙ eqb-true _ 1 (sym (contains-aid (has_bit all) n aid.0 aid.1) ∙ member)),
  λ here.
      let aid = has-aid first octets n within no_number_0 here in
      contains-aid (has_bit all) n aid.0 aid.1
      ∙ eq-eqb _ 1 (ap (λ o. bit_at o (n % 8)) (same (n / 8)) ∙ sent_at-has first octets n here),
)

-- number 0 is none of them
pub no_bit_0 : (all : List ℕ) (first : ℕ) (octets : List ℕ) → ¬ HasNumber first octets 0 → ((place : ℕ) → get_or all place 0 ≡ sent_at first octets place) → has_bit all 0 ≡ false
no_bit_0 all first octets no_number_0 same =
    ne_eqb _ 1 (λ is. no_number_0 (has-sent_at first octets 0 (ap (λ o. bit_at o 0) (sym (same 0)) ∙ is)))
