-- The one spelling of a set of numbers, by its octets alone.
use Rattle.std.proofs.Common.{◌≡◌, ◌↔◌, ◌⊎◌, ℕ, zero, suc, ◌+◌, ◌-◌, ◌*◌, ◌/◌, ◌%◌, ◌<◌, ◌≤◌, Bool, cond, IsTrue, List, [], ◌∷◌, length, get_or, refl, sym, ap, ◌∙◌, subst, inl, inr, ⊎_elim, arith}
use Rattle.std.specs.Int.{bit_at, from_bool, w8, trailing_zeros}
use Rattle.std.proofs.lemmas.Bool.{cases_lt, le-leb, lt-leb, false≢true, false_from_ne_true}
use Rattle.std.proofs.lemmas.List.{get_or_past, ext_get_or}
use Rattle.std.proofs.lemmas.Nat.Bits.{bit_at-zero, bit_at-lt, bit_at-trailing_zeros, same_from_bits_below}
use Rattle.tim.specs.Tim.{IsAid, first_place, HasNumber, ShowsTim, tim_id}
use Rattle.tim.specs.Bitmap.{sent_at}

-- ---- the octet at a place

pub sent_at-from : (first : ℕ) (octets : List ℕ) (place : ℕ) → first ≤ place → sent_at first octets place ≡ get_or octets (place - first) 0
sent_at-from first octets place from =
    ap (λ test. cond test (get_or octets (place - first) 0) 0) (le-leb first place from)

pub sent_at-before : (first : ℕ) (octets : List ℕ) (place : ℕ) → place < first → sent_at first octets place ≡ 0
sent_at-before first octets place before =
    ap (λ test. cond test (get_or octets (place - first) 0) 0) (lt-leb first place before)

pub sent_at-past : (first : ℕ) (octets : List ℕ) (place : ℕ) → first + length octets ≤ place → sent_at first octets place ≡ 0
sent_at-past first octets place past =
    sent_at-from first octets place (omega arith) ∙ get_or_past octets (place - first) 0 (omega arith)

-- 0 has no bit
pub no_bit : (octet k : ℕ) → octet ≡ 0 → bit_at octet k ≡ 1 → ⊥
no_bit octet k none bit =
    let nothing = ap (λ o. bit_at o k) none ∙ bit_at-zero k in
    omega (arith, nothing, bit)

-- the octets have a number exactly where the octet at its place has its bit
pub sent_at-has : (first : ℕ) (octets : List ℕ) (n : ℕ) → HasNumber first octets n → bit_at (sent_at first octets (n / 8)) (n % 8) ≡ 1
sent_at-has first octets n w = ap (λ o. bit_at o (n % 8)) (sent_at-from first octets (n / 8) w.from) ∙ w.bit

pub has-sent_at : (first : ℕ) (octets : List ℕ) (n : ℕ) → bit_at (sent_at first octets (n / 8)) (n % 8) ≡ 1 → HasNumber first octets n
has-sent_at first octets n bit = ⊎_elim
    (λ before. absurd (no_bit _ (n % 8) (sent_at-before first octets (n / 8) before) bit))
    (λ from. ⊎_elim
    (λ to. record { from = from; to = to; bit = sym (ap (λ o. bit_at o (n % 8)) (sent_at-from first octets (n / 8) from)) ∙ bit })
    (λ past. absurd (no_bit _ (n % 8) (sent_at-past first octets (n / 8) past) bit))
    (cases_lt (n / 8) (first + length octets)))
    (cases_lt (n / 8) first)

-- the same at a number by its place and its bit
pub has-sent_at_bit : (first : ℕ) (octets : List ℕ) (place k : ℕ) → k < 8 → bit_at (sent_at first octets place) k ≡ 1 → HasNumber first octets (8 * place + k)
has-sent_at_bit first octets place k below bit =
    let place_is : place ≡ (8 * place + k) / 8 = omega arith in
    let bit_is : k ≡ (8 * place + k) % 8 = omega arith in
    has-sent_at first octets (8 * place + k) (subst (λ j. bit_at (sent_at first octets ((8 * place + k) / 8)) j ≡ 1) bit_is (subst (λ p. bit_at (sent_at first octets p) k ≡ 1) place_is bit))

-- ---- the spelling

-- the last octet isn't 0, nor are the first two both
pub record IsUsed (octets : List ℕ) : Type 0 where
  pub ends : 0 < get_or octets (length octets - 1) 0
  pub begins : 2 ≤ length octets → 0 < get_or octets 0 0 + get_or octets 1 0

-- octets that are sent from a place on, whatever set they show
pub record IsSpelled (first : ℕ) (octets : List ℕ) : Type 0 where
  pub some : 1 ≤ length octets
  pub within : first + length octets ≤ 251
  pub in_octets : (place : ℕ) → get_or octets place 0 < 256
  pub no_number_0 : ¬ HasNumber first octets 0
  pub used : IsUsed octets ⊎ ((first ≡ 0) × (octets ≡ 0 ∷ []))

-- an octet that isn't 0 has a bit
pub some_bit : (octet : ℕ) → 0 < octet → octet < 256 → (k : ℕ) × (k < 8) × (bit_at octet k ≡ 1)
some_bit octet more below =
    let w = bit_at-trailing_zeros w8 octet more below in
    (trailing_zeros w8 octet, w.0, w.1)

-- octets of which the last isn't 0 have a number
pub some_number : (first : ℕ) (octets : List ℕ) → 1 ≤ length octets → first + length octets ≤ 251 → ((place : ℕ) → get_or octets place 0 < 256) → ¬ HasNumber first octets 0 → 0 < get_or octets (length octets - 1) 0 → (n : ℕ) × IsAid n × HasNumber first octets n
some_number first octets some within in_octets no_number_0 ends =
    let last = length octets - 1 in
    let w = some_bit (get_or octets last 0) ends (in_octets last) in
    let place = first + last in
    let at : place - first ≡ last = omega arith in
    let sent : sent_at first octets place ≡ get_or octets last 0 = sent_at-from first octets place (omega arith) ∙ ap (λ p. get_or octets p 0) at in
    let here : HasNumber first octets (8 * place + w.0) = has-sent_at_bit first octets place w.0 w.1 (ap (λ o. bit_at o w.0) sent ∙ w.2) in
    let k_below = w.1 in
    (8 * place + w.0, (⊎_elim (λ none. absurd (no_number_0 (subst (λ n. HasNumber first octets n) (omega arith) here))) (λ e. e) (cases_lt (8 * place + w.0) 1), omega arith), here)

-- one zero octet has no number
pub none_in_zero : (n : ℕ) → HasNumber 0 (0 ∷ []) n → ⊥
none_in_zero n w =
    let only : n / 8 - 0 ≡ 0 = omega (arith, w.to) in
    no_bit _ (n % 8) (ap (λ p. get_or (0 ∷ []) p 0) only) w.bit

-- ---- the spelling of a set

-- a TIM's octets are spelled, and have the numbers of its set
pub spelled : (t : List ℕ) (count period : ℕ) (group : Bool) (members : ℕ → Bool) (w : ShowsTim t count period group members) → IsSpelled (first_place w.control) w.octets
spelled t count period group members w =
    let octets = w.octets in
    let first = first_place w.control in
    let in_octets : (place : ℕ) → get_or octets place 0 < 256 = λ place. let behind = suc (suc (suc (suc (suc place)))) in subst (λ u. get_or u behind 0 < 256) w.string (w.in_octets behind) in
    record {
      some = w.some;
      within = w.within;
      in_octets = in_octets;
      no_number_0 = w.no_number_0;
      used = ⊎_elim
          (λ none. inr (w.nothing (λ n aid. false_from_ne_true (members n) (λ member. omega (arith, w.ends n aid member)))))
          (λ more.
          let there = some_number first octets w.some w.within in_octets w.no_number_0 more in
          inl (record { ends = more; begins = w.begins there.0 there.1 ((w.numbers there.0 there.1).1 there.2) }))
          (cases_lt (get_or octets (length octets - 1) 0) 1);
    }

-- spelled octets that have the numbers of a set, behind fields that fit, are a TIM of it
pub shows : (count period control : ℕ) (group : Bool) (octets : List ℕ) (members : ℕ → Bool) → count < period → period < 256 → control < 256 → bit_at control 0 ≡ from_bool group → (IsTrue group → count ≡ 0) → IsSpelled (first_place control) octets → ((n : ℕ) → IsAid n → IsTrue (members n) ↔ HasNumber (first_place control) octets n) → ShowsTim (tim_id ∷ (length octets + 3) ∷ count ∷ period ∷ control ∷ octets) count period group members
shows count period control group octets members counted period_fits control_fits indicator at_0 s numbers = record {
  control = control;
  octets = octets;
  string = refl;
  in_octets = fit;
  count_below_period = counted;
  traffic_indicator = indicator;
  group_at_0 = at_0;
  some = s.some;
  within = s.within;
  numbers = numbers;
  no_number_0 = s.no_number_0;
  ends = λ n aid member. (used n aid member).ends;
  begins = λ n aid member. (used n aid member).begins;
  nothing = λ none. ⊎_elim
      (λ u. let there = some_number (first_place control) octets s.some s.within s.in_octets s.no_number_0 u.ends in
      absurd (false≢true (sym (none there.0 there.1) ∙ (numbers there.0 there.1).1 there.2)))
      (λ e. e)
      s.used;
} where
  fit : (place : ℕ) → get_or (tim_id ∷ (length octets + 3) ∷ count ∷ period ∷ control ∷ octets) place 0 < 256
  fit zero = omega arith
  fit (suc zero) = omega (arith, s.within)
  fit (suc (suc zero)) = omega arith
  fit (suc (suc (suc zero))) = period_fits
  fit (suc (suc (suc (suc zero)))) = control_fits
  fit (suc (suc (suc (suc (suc place))))) = s.in_octets place

  used : (n : ℕ) → IsAid n → IsTrue (members n) → IsUsed octets
  used n aid member = ⊎_elim
      (λ u. u)
      (λ e. absurd (none_in_zero n (subst (λ os. HasNumber 0 os n) e.1 (subst (λ first. HasNumber first octets n) e.0 ((numbers n aid).0 member)))))
      s.used

-- ---- one set has one spelling

-- the octets at the same places are the same where the same numbers are shown
pub sent_at-lt : (first : ℕ) (octets : List ℕ) (place : ℕ) → IsSpelled first octets → sent_at first octets place < 256
sent_at-lt first octets place s = ⊎_elim
    (λ before. subst (λ o. o < 256) (sym (sent_at-before first octets place before)) (omega arith))
    (λ from. subst (λ o. o < 256) (sym (sent_at-from first octets place from)) (s.in_octets (place - first)))
    (cases_lt place first)

-- two bits are one where each is 1 with the other
pub same_bit : (a b : ℕ) → a < 2 → b < 2 → (a ≡ 1 → b ≡ 1) → (b ≡ 1 → a ≡ 1) → a ≡ b
same_bit a b p q to back = grind arith

-- the octets have the same numbers
abbrev pub SameShown : ℕ → List ℕ → ℕ → List ℕ → Type 0
SameShown first octets first' octets' = (n : ℕ) → IsAid n → HasNumber first octets n → HasNumber first' octets' n

same_one_way : (first first' : ℕ) (octets octets' : List ℕ) → IsSpelled first octets → SameShown first octets first' octets' → (place k : ℕ) → place < 251 → k < 8 → bit_at (sent_at first octets place) k ≡ 1 → bit_at (sent_at first' octets' place) k ≡ 1
same_one_way first first' octets octets' s same place k below_251 below_8 bit =
    let n = 8 * place + k in
    let here : HasNumber first octets n = has-sent_at_bit first octets place k below_8 bit in
    let aid : IsAid n = (⊎_elim (λ none. let is_0 : n ≡ 0 = omega arith in absurd (s.no_number_0 (subst (λ m. HasNumber first octets m) is_0 here))) (λ e. e) (cases_lt n 1), omega arith) in
    let there = sent_at-has first' octets' n (same n aid here) in
    let place_is : n / 8 ≡ place = omega arith in
    let bit_is : n % 8 ≡ k = omega arith in
    subst (λ j. bit_at (sent_at first' octets' place) j ≡ 1) bit_is (subst (λ p. bit_at (sent_at first' octets' p) (n % 8) ≡ 1) place_is there)

pub same_sent : (first first' : ℕ) (octets octets' : List ℕ) → IsSpelled first octets → IsSpelled first' octets' → SameShown first octets first' octets' → SameShown first' octets' first octets → (place : ℕ) → place < 251 → sent_at first octets place ≡ sent_at first' octets' place
same_sent first first' octets octets' s s' to back place below =
    same_from_bits_below 8 (sent_at first octets place) (sent_at first' octets' place) (sent_at-lt first octets place s) (sent_at-lt first' octets' place s') (λ k k_below.
    same_bit _ _ (bit_at-lt _ k) (bit_at-lt _ k)
    (same_one_way first first' octets octets' s to place k below k_below)
    (same_one_way first' first octets' octets s' back place k below k_below))

-- no octet is sent past the last of the other spelling
ends_within : (first first' : ℕ) (octets octets' : List ℕ) → IsSpelled first octets → IsUsed octets → ((place : ℕ) → place < 251 → sent_at first octets place ≡ sent_at first' octets' place) → first + length octets ≤ first' + length octets'
ends_within first first' octets octets' s u same = ⊎_elim
    (λ past.
    let last = length octets - 1 in
    let some = s.some in
    let at : first + last - first ≡ last = omega arith in
    let here = sent_at-from first octets (first + last) (omega arith) ∙ ap (λ p. get_or octets p 0) at in
    let there = sent_at-past first' octets' (first + last) (omega arith) in
    let both = same (first + last) (omega (arith, s.within)) in
    absurd (omega (arith, u.ends, here, there, both)))
    (λ e. e)
    (cases_lt (first' + length octets') (first + length octets))

-- nor does the other begin later
begins_within : (half half' : ℕ) (octets octets' : List ℕ) → IsSpelled (2 * half) octets → IsUsed octets → IsSpelled (2 * half') octets' → 2 * half + length octets ≡ 2 * half' + length octets' → ((place : ℕ) → place < 251 → sent_at (2 * half) octets place ≡ sent_at (2 * half') octets' place) → half' ≤ half
begins_within half half' octets octets' s u s' same_end same = ⊎_elim
    (λ later.
    let some = s'.some in
    let within = s.within in
    let at_0 : 2 * half - 2 * half ≡ 0 = omega arith in
    let at_1 : 2 * half + 1 - 2 * half ≡ 1 = omega arith in
    let here_0 = sent_at-from (2 * half) octets (2 * half) (omega arith) ∙ ap (λ p. get_or octets p 0) at_0 in
    let here_1 = sent_at-from (2 * half) octets (2 * half + 1) (omega arith) ∙ ap (λ p. get_or octets p 0) at_1 in
    let there_0 = sent_at-before (2 * half') octets' (2 * half) (omega arith) in
    let there_1 = sent_at-before (2 * half') octets' (2 * half + 1) (omega arith) in
    let both_0 = same (2 * half) (omega arith) in
    let both_1 = same (2 * half + 1) (omega arith) in
    absurd (omega (arith, u.begins (omega arith), here_0, here_1, there_0, there_1, both_0, both_1)))
    (λ e. e)
    (cases_lt half half')

-- what stands from one place on, as long, is the same
same_octets : (first : ℕ) (octets octets' : List ℕ) → first + length octets ≤ 251 → length octets ≡ length octets' → ((place : ℕ) → place < 251 → sent_at first octets place ≡ sent_at first octets' place) → octets ≡ octets'
same_octets first octets octets' within long same = ext_get_or 0 octets octets' long (λ i below.
    let at : first + i - first ≡ i = omega arith in
    let here = sent_at-from first octets (first + i) (omega arith) ∙ ap (λ p. get_or octets p 0) at in
    let there = sent_at-from first octets' (first + i) (omega arith) ∙ ap (λ p. get_or octets' p 0) at in
    sym here ∙ same (first + i) (omega arith) ∙ there)

both_used : (half half' : ℕ) (octets octets' : List ℕ) → IsSpelled (2 * half) octets → IsSpelled (2 * half') octets' → IsUsed octets → IsUsed octets' → ((place : ℕ) → place < 251 → sent_at (2 * half) octets place ≡ sent_at (2 * half') octets' place) → (half ≡ half') × (octets ≡ octets')
both_used half half' octets octets' s s' u u' same =
    let back : (place : ℕ) → place < 251 → sent_at (2 * half') octets' place ≡ sent_at (2 * half) octets place = λ place below. sym (same place below) in
    let end_is : 2 * half + length octets ≡ 2 * half' + length octets' = omega (arith, ends_within (2 * half) (2 * half') octets octets' s u same, ends_within (2 * half') (2 * half) octets' octets s' u' back) in
    let half_is : half ≡ half' = omega (arith, begins_within half half' octets octets' s u s' end_is same, begins_within half' half octets' octets s' u' s (sym end_is) back) in
    let long : length octets ≡ length octets' = omega arith in
    let within = s.within in
    (half_is, same_octets (2 * half) octets octets' within long (λ place below. same place below ∙ ap (λ h. sent_at (2 * h) octets' place) (sym half_is)))

-- the numbers of octets of which the last isn't 0 are not those of one zero octet
used_and_zero : (first first' : ℕ) (octets octets' : List ℕ) → IsSpelled first octets → IsUsed octets → (first' ≡ 0) × (octets' ≡ 0 ∷ []) → SameShown first octets first' octets' → ⊥
used_and_zero first first' octets octets' s u zero_is to =
    let there = some_number first octets s.some s.within s.in_octets s.no_number_0 u.ends in
    none_in_zero there.0 (subst (λ os. HasNumber 0 os there.0) zero_is.1 (subst (λ f. HasNumber f octets' there.0) zero_is.0 (to there.0 there.1 there.2)))

-- octets that have the same numbers are spelled alike
pub one_spelling : (half half' : ℕ) (octets octets' : List ℕ) → IsSpelled (2 * half) octets → IsSpelled (2 * half') octets' → SameShown (2 * half) octets (2 * half') octets' → SameShown (2 * half') octets' (2 * half) octets → (half ≡ half') × (octets ≡ octets')
one_spelling half half' octets octets' s s' to back = ⊎_elim
    (λ u. ⊎_elim
    (λ u'. both_used half half' octets octets' s s' u u' (same_sent (2 * half) (2 * half') octets octets' s s' to back))
    (λ z'. absurd (used_and_zero (2 * half) (2 * half') octets octets' s u z' to))
    s'.used)
    (λ z. ⊎_elim
    (λ u'. absurd (used_and_zero (2 * half') (2 * half) octets' octets s' u' z back))
    (λ z'. (omega (arith, z.0, z'.0), z.1 ∙ sym z'.1))
    s'.used)
    s.used
