-- What is sent of the octets of a virtual bitmap.
use Rattle.std.proofs.Common.{◌≡◌, ◌⊎◌, ℕ, zero, suc, ◌+◌, ◌-◌, ◌*◌, ◌<◌, ◌≤◌, List, [], ◌∷◌, length, get_or, take, drop, refl, sym, ap, ◌∙◌, subst, inl, inr, ⊎_elim, arith}
use Rattle.std.proofs.lemmas.Bool.{cases_lt}
use Rattle.std.proofs.lemmas.List.{get_or_past, get_or-take, length-take, take_rest, ext_get_or}
use Rattle.tim.specs.Tim.{put, up_to_last, from_first_pair, or_zero, partial_of}
use Rattle.tim.proofs.Spelling.{IsUsed}

-- ---- up to the last octet that isn't 0

-- an octet in front of others, of which the last isn't 0
pub get_or-put : (octet : ℕ) (octets : List ℕ) (place : ℕ) → get_or (put octet octets) place 0 ≡ get_or (octet ∷ octets) place 0
get_or-put zero [] zero = refl
get_or-put zero [] (suc place) = refl
get_or-put zero (o ∷ os) place = refl
get_or-put (suc octet) octets place = refl

pub length-put : (octet : ℕ) (octets : List ℕ) → length (put octet octets) ≤ suc (length octets)
length-put zero [] = omega arith
length-put zero (o ∷ os) = omega arith
length-put (suc octet) octets = omega arith

-- the last of some octets, if there are any, isn't 0
abbrev pub Ends : List ℕ → Type 0
Ends octets = 1 ≤ length octets → 0 < get_or octets (length octets - 1) 0

pub Ends-cons : (octet o : ℕ) (os : List ℕ) → Ends (o ∷ os) → Ends (octet ∷ o ∷ os)
Ends-cons octet o os ends some =
    let last : length (octet ∷ o ∷ os) - 1 ≡ suc (length (o ∷ os) - 1) = omega arith in
    let P : ℕ → Type 0 = λ place. 0 < get_or (octet ∷ o ∷ os) place 0 in
    subst P (sym last) (ends (omega arith))

pub Ends-put : (octet : ℕ) (octets : List ℕ) → Ends octets → Ends (put octet octets)
Ends-put zero [] ends = λ some. absurd (omega arith)
Ends-put zero (o ∷ os) ends = Ends-cons zero o os ends
Ends-put (suc octet) [] ends = λ some. omega arith
Ends-put (suc octet) (o ∷ os) ends = Ends-cons (suc octet) o os ends

pub get_or-up_to_last : (octets : List ℕ) (place : ℕ) → get_or (up_to_last octets) place 0 ≡ get_or octets place 0
unfolding up_to_last
get_or-up_to_last [] place = refl
get_or-up_to_last (o ∷ os) zero = get_or-put o (up_to_last os) zero
get_or-up_to_last (o ∷ os) (suc place) = get_or-put o (up_to_last os) (suc place) ∙ get_or-up_to_last os place

pub length-up_to_last : (octets : List ℕ) → length (up_to_last octets) ≤ length octets
unfolding up_to_last
length-up_to_last [] = omega arith
length-up_to_last (o ∷ os) = omega (arith, length-put o (up_to_last os), length-up_to_last os)

pub Ends-up_to_last : (octets : List ℕ) → Ends (up_to_last octets)
unfolding up_to_last
Ends-up_to_last [] = λ some. absurd (omega arith)
Ends-up_to_last (o ∷ os) = Ends-put o (up_to_last os) (Ends-up_to_last os)

-- ---- from the first pair of octets on that aren't both 0

-- a number of pairs of octets, all of them 0, is passed, and what is behind them begins otherwise
pub record IsFromPair (octets : List ℕ) (pairs : ℕ) (behind : List ℕ) : Type 0 where
  pub zeros : (place : ℕ) → place < 2 * pairs → get_or octets place 0 ≡ 0
  pub others : (place : ℕ) → get_or behind place 0 ≡ get_or octets (2 * pairs + place) 0
  pub whole : length octets ≡ 2 * pairs + length behind
  pub begins : 2 ≤ length behind → 0 < get_or behind 0 0 + get_or behind 1 0

pub IsFromPair-here : (octets : List ℕ) → (2 ≤ length octets → 0 < get_or octets 0 0 + get_or octets 1 0) → IsFromPair octets 0 octets
IsFromPair-here octets begins = record {
  zeros = λ place below. absurd (omega arith);
  others = λ place. let here : place ≡ 2 * 0 + place = omega arith in ap (λ at. get_or octets at 0) here;
  whole = omega arith;
  begins = begins;
}

pub IsFromPair-passed : (octets : List ℕ) (pairs : ℕ) (behind : List ℕ) → IsFromPair octets pairs behind → IsFromPair (zero ∷ zero ∷ octets) (suc pairs) behind
IsFromPair-passed octets pairs behind w = record {
  zeros = zeros;
  others = λ place. let there : suc (suc (2 * pairs + place)) ≡ 2 * suc pairs + place = omega arith in w.others place ∙ ap (λ at. get_or (zero ∷ zero ∷ octets) at 0) there;
  whole = omega (arith, w.whole);
  begins = w.begins;
} where
  zeros : (place : ℕ) → place < 2 * suc pairs → get_or (zero ∷ zero ∷ octets) place 0 ≡ 0
  zeros zero below = refl
  zeros (suc zero) below = refl
  zeros (suc (suc place)) below = w.zeros place (omega arith)

-- the pairs that are passed here, beside those that were passed before
pub from_first_pair-is : (passed : ℕ) (octets : List ℕ) → (pairs : ℕ) × ((from_first_pair passed octets).0 ≡ passed + pairs) × IsFromPair octets pairs (from_first_pair passed octets).1
unfolding from_first_pair
from_first_pair-is passed [] = (0, omega arith, IsFromPair-here [] (λ two. absurd (omega arith)))
from_first_pair-is passed (zero ∷ []) = (0, omega arith, IsFromPair-here (zero ∷ []) (λ two. absurd (omega arith)))
from_first_pair-is passed (zero ∷ zero ∷ octets) =
    let w = from_first_pair-is (suc passed) octets in
    (suc w.0, omega (arith, w.1), IsFromPair-passed octets w.0 _ w.2)
from_first_pair-is passed (zero ∷ suc o ∷ octets) = (0, omega arith, IsFromPair-here (zero ∷ suc o ∷ octets) (λ two. omega arith))
from_first_pair-is passed (suc o ∷ octets) = (0, omega arith, IsFromPair-here (suc o ∷ octets) (λ two. omega arith))

-- ---- both

-- Of the octets of a bitmap, these are sent from a place on: the last of them isn't 0, nor are the first two both, or
-- the bitmap has none but zeros. Any other octet is 0.
pub record IsPartial (bitmap : List ℕ) (half : ℕ) (octets : List ℕ) : Type 0 where
  pub some : 1 ≤ length octets
  pub within : 2 * half + length octets ≤ length bitmap
  pub zeros : (place : ℕ) → place < 2 * half → get_or bitmap place 0 ≡ 0
  pub others : (place : ℕ) → get_or octets place 0 ≡ get_or bitmap (2 * half + place) 0
  pub used : IsUsed octets ⊎ ((2 * half ≡ 0) × (octets ≡ 0 ∷ []))

partial_from : (bitmap last : List ℕ) (pairs : ℕ) (behind : List ℕ) → 1 ≤ length bitmap → ((place : ℕ) → get_or last place 0 ≡ get_or bitmap place 0) → length last ≤ length bitmap → Ends last → IsFromPair last pairs behind → IsPartial bitmap pairs (or_zero behind)
partial_from bitmap last pairs [] some same long ends w =
    let whole = w.whole in
    let none : pairs ≡ 0 = ⊎_elim
    (λ e. e)
    (λ more. absurd (omega (arith, ends (omega arith), w.zeros (length last - 1) (omega arith))))
    (cases_zero pairs) in
    record {
      some = omega arith;
      within = omega arith;
      zeros = λ place below. absurd (omega arith);
      others = λ place. get_or-zero place ∙ sym (get_or_past last (2 * pairs + place) 0 (omega arith)) ∙ same (2 * pairs + place);
      used = inr (omega arith, refl);
    }
  where
    get_or-zero : (place : ℕ) → get_or {A = ℕ} (0 ∷ []) place 0 ≡ 0
    get_or-zero zero = refl
    get_or-zero (suc place) = refl

    cases_zero : (n : ℕ) → (n ≡ 0) ⊎ (1 ≤ n)
    cases_zero zero = inl refl
    cases_zero (suc n) = inr (omega arith)
partial_from bitmap last pairs (o ∷ os) some same long ends w =
    let whole = w.whole in
    let last_is : 2 * pairs + (length (o ∷ os) - 1) ≡ length last - 1 = omega arith in
    let last_octet : get_or (o ∷ os) (length (o ∷ os) - 1) 0 ≡ get_or last (length last - 1) 0 = w.others (length (o ∷ os) - 1) ∙ ap (λ p. get_or last p 0) last_is in
    record {
      some = omega arith;
      within = omega arith;
      zeros = λ place below. sym (same place) ∙ w.zeros place below;
      others = λ place. w.others place ∙ same (2 * pairs + place);
      used = inl (record { ends = omega (arith, last_octet, ends (omega arith)); begins = w.begins });
    }

pub partial_of-is : (bitmap : List ℕ) → 1 ≤ length bitmap → IsPartial bitmap (partial_of bitmap).0 (partial_of bitmap).1
unfolding partial_of
partial_of-is bitmap some =
    let last = up_to_last bitmap in
    let w = from_first_pair-is 0 last in
    let pairs_is : w.0 ≡ (from_first_pair 0 last).0 = omega (arith, w.1) in
    subst (λ pairs. IsPartial bitmap pairs (or_zero (from_first_pair 0 last).1)) pairs_is
    (partial_from bitmap last w.0 (from_first_pair 0 last).1 some (get_or-up_to_last bitmap) (length-up_to_last bitmap) (Ends-up_to_last bitmap) w.2)

-- ---- by the places of the octets, one step at a time

-- octets of which the last isn't 0 are those that they have at each place
pub same_ends : (xs ys : List ℕ) → Ends xs → Ends ys → ((place : ℕ) → get_or xs place 0 ≡ get_or ys place 0) → xs ≡ ys
same_ends xs ys ends ends' same =
    let long : length xs ≡ length ys = ⊎_elim
    (λ shorter. absurd (omega (arith, ends' (omega arith), same (length ys - 1), get_or_past xs (length ys - 1) 0 (omega arith))))
    (λ rest. ⊎_elim
    (λ longer. absurd (omega (arith, ends (omega arith), same (length xs - 1), get_or_past ys (length xs - 1) 0 (omega arith))))
    (λ within. omega arith)
    (cases_lt (length ys) (length xs)))
    (cases_lt (length xs) (length ys)) in
    ext_get_or 0 xs ys long (λ place below. same place)

-- a last octet that is 0 is dropped
pub up_to_last_zero : (octets : List ℕ) → 1 ≤ length octets → get_or octets (length octets - 1) 0 ≡ 0 → up_to_last (take (length octets - 1) octets) ≡ up_to_last octets
up_to_last_zero octets some last = same_ends _ _ (Ends-up_to_last (take (length octets - 1) octets)) (Ends-up_to_last octets)
    (λ place. get_or-up_to_last (take (length octets - 1) octets) place ∙ others place ∙ sym (get_or-up_to_last octets place))
  where
    others : (place : ℕ) → get_or (take (length octets - 1) octets) place 0 ≡ get_or octets place 0
    others place = ⊎_elim
        (λ before. get_or-take (length octets - 1) octets place 0 before)
        (λ from. get_or_past (take (length octets - 1) octets) place 0 (omega (arith, length-take (length octets - 1) octets))
        ∙ ⊎_elim
        (λ here. sym last ∙ (let at : length octets - 1 ≡ place = omega arith in ap (λ p. get_or octets p 0) at))
        (λ past. sym (get_or_past octets place 0 past))
        (cases_lt place (length octets)))
        (cases_lt place (length octets - 1))

-- octets of which the last isn't 0 stay
pub up_to_last_other : (octets : List ℕ) → Ends octets → octets ≡ up_to_last octets
up_to_last_other octets ends = same_ends octets (up_to_last octets) ends (Ends-up_to_last octets) (λ place. sym (get_or-up_to_last octets place))

-- a first pair that is 0 and 0 is passed
pub from_first_pair_zero : (passed : ℕ) (octets : List ℕ) → 2 ≤ length octets → get_or octets 0 0 ≡ 0 → get_or octets 1 0 ≡ 0 → from_first_pair (passed + 1) (take (length octets - 2) (drop 2 octets)) ≡ from_first_pair passed octets
unfolding from_first_pair
from_first_pair_zero passed [] two first second = absurd (omega arith)
from_first_pair_zero passed (o ∷ []) two first second = absurd (omega arith)
from_first_pair_zero passed (zero ∷ zero ∷ octets) two first second =
    let next : passed + 1 ≡ suc passed = omega arith in
    (λ i. from_first_pair (next i) (take_rest (zero ∷ zero ∷ octets) 2 i))
from_first_pair_zero passed (zero ∷ suc p ∷ octets) two first second = absurd (omega arith)
from_first_pair_zero passed (suc o ∷ p ∷ octets) two first second = absurd (omega arith)

-- any other octets stay
pub from_first_pair_other : (passed : ℕ) (octets : List ℕ) → (2 ≤ length octets → 0 < get_or octets 0 0 + get_or octets 1 0) → (passed, octets) ≡ from_first_pair passed octets
unfolding from_first_pair
from_first_pair_other passed [] begins = refl
from_first_pair_other passed (zero ∷ []) begins = refl
from_first_pair_other passed (zero ∷ zero ∷ octets) begins = absurd (omega (arith, begins (omega arith)))
from_first_pair_other passed (zero ∷ suc p ∷ octets) begins = refl
from_first_pair_other passed (suc o ∷ octets) begins = refl

-- what is sent, by the steps that find it
sent : (bitmap : List ℕ) (passed : ℕ) (octets : List ℕ) → (passed, octets) ≡ from_first_pair 0 (up_to_last bitmap) → (passed, or_zero octets) ≡ partial_of bitmap
unfolding partial_of
sent bitmap passed octets is = λ i. ((is i).0, or_zero (is i).1)

-- nothing is left
pub partial_empty : (bitmap : List ℕ) (passed : ℕ) (octets : List ℕ) → (passed, octets) ≡ from_first_pair 0 (up_to_last bitmap) → length octets ≡ 0 → (passed, 0 ∷ []) ≡ partial_of bitmap
partial_empty bitmap passed [] is none = sent bitmap passed [] is
partial_empty bitmap passed (o ∷ os) is none = absurd (omega arith)

-- something is
pub partial_some : (bitmap : List ℕ) (passed : ℕ) (octets : List ℕ) → (passed, octets) ≡ from_first_pair 0 (up_to_last bitmap) → 1 ≤ length octets → (passed, octets) ≡ partial_of bitmap
partial_some bitmap passed [] is some = absurd (omega arith)
partial_some bitmap passed (o ∷ os) is some = sent bitmap passed (o ∷ os) is
