-- A set is shown by exactly one string, and a string shows one thing at most.
use Rattle.std.proofs.Common.{◌≡◌, ◌↔◌, ℕ, ◌+◌, ◌-◌, ◌*◌, ◌/◌, ◌%◌, ◌<◌, ◌≤◌, Bool, true, false, ◌&&◌, nat_le, IsTrue, List, [], ◌∷◌, ◌++◌, append_assoc, length, get_or, map, refl, sym, ap, ◌∙◌, subst, ⊎_elim, arith}
use Rattle.std.specs.Int.{bit_at, from_bool}
use Rattle.std.specs.List.{range_with_len}
use Rattle.std.proofs.lemmas.Bool.{cases_lt, le-leb, leb-true, and_parts, cases_Bool}
use Rattle.std.proofs.lemmas.Nat.Bits.{bit_at_lowest}
use Rattle.tim.specs.Tim.{IsAid, SameNumbers, max_aid, tim_id, first_place, HasNumber, ShowsTim, is_shown, bits_from, octet_at, virtual_bitmap, partial_of, element_of, tim_octets}
use Rattle.tim.specs.Bitmap.{sent_at}
use Rattle.tim.proofs.Octets.{from_bool-le, from_bool-true, bit_at-octet_at, length-virtual_bitmap, get_or-virtual_bitmap, virtual_bitmap-lt}
use Rattle.tim.proofs.Partial.{IsPartial, partial_of-is}
use Rattle.tim.proofs.Spelling.{sent_at-from, sent_at-before, sent_at-has, has-sent_at, IsSpelled, spelled, shows, one_spelling}

-- ---- Bitmap Control

pub control_half : (half : ℕ) (group : Bool) → first_place (2 * half + from_bool group) ≡ 2 * half
control_half half group =
    let low = from_bool-le group in
    omega arith

pub control_bit : (half : ℕ) (group : Bool) → bit_at (2 * half + from_bool group) 0 ≡ from_bool group
control_bit half group =
    let low = from_bool-le group in
    let lowest : (2 * half + from_bool group) % 2 ≡ from_bool group = omega arith in
    bit_at_lowest _ ∙ lowest

pub same_control : (control control' : ℕ) → control / 2 ≡ control' / 2 → bit_at control 0 ≡ bit_at control' 0 → control ≡ control'
same_control control control' half low =
    let bit : control % 2 ≡ control' % 2 = sym (bit_at_lowest control) ∙ low ∙ bit_at_lowest control' in
    omega arith

-- ---- which numbers are shown

pub shown-aid : (members : ℕ → Bool) (n : ℕ) → IsAid n → is_shown members n ≡ members n
shown-aid members n aid = rw (le-leb 1 n aid.0, le-leb n max_aid aid.1) refl

pub aid-shown : (members : ℕ → Bool) (n : ℕ) → is_shown members n ≡ true → IsAid n × (members n ≡ true)
aid-shown members n shown =
    let parts = and_parts _ _ shown in
    let both = and_parts _ _ parts.0 in
    ((leb-true 1 n both.0, leb-true n max_aid both.1), parts.1)

-- the bit of a number in the virtual bitmap
pub bit_in_bitmap : (members : ℕ → Bool) (n : ℕ) → n ≤ max_aid → bit_at (get_or (virtual_bitmap members) (n / 8) 0) (n % 8) ≡ from_bool (is_shown members n)
bit_in_bitmap members n most =
    let number : 8 * (n / 8) + n % 8 ≡ n = omega arith in
    ap (λ o. bit_at o (n % 8)) (get_or-virtual_bitmap members (n / 8) (omega arith))
    ∙ bit_at-octet_at members (n / 8) (n % 8) (omega arith)
    ∙ ap (λ m. from_bool (is_shown members m)) number

-- ---- what is sent of the virtual bitmap

pub sent-partial : (bitmap : List ℕ) (half : ℕ) (octets : List ℕ) → IsPartial bitmap half octets → (place : ℕ) → sent_at (2 * half) octets place ≡ get_or bitmap place 0
sent-partial bitmap half octets w place = ⊎_elim
    (λ before. sent_at-before (2 * half) octets place before ∙ sym (w.zeros place before))
    (λ from.
    let at : 2 * half + (place - 2 * half) ≡ place = omega arith in
    sent_at-from (2 * half) octets place from ∙ w.others (place - 2 * half) ∙ ap (λ p. get_or bitmap p 0) at)
    (cases_lt place (2 * half))

has-shown : (members : ℕ → Bool) (half : ℕ) (octets : List ℕ) → IsPartial (virtual_bitmap members) half octets → (n : ℕ) → n ≤ max_aid → HasNumber (2 * half) octets n → is_shown members n ≡ true
has-shown members half octets w n most here =
    from_bool-true _ (sym (bit_in_bitmap members n most) ∙ sym (ap (λ o. bit_at o (n % 8)) (sent-partial _ half octets w (n / 8))) ∙ sent_at-has (2 * half) octets n here)

shown-has : (members : ℕ → Bool) (half : ℕ) (octets : List ℕ) → IsPartial (virtual_bitmap members) half octets → (n : ℕ) → n ≤ max_aid → is_shown members n ≡ true → HasNumber (2 * half) octets n
shown-has members half octets w n most shown =
    has-sent_at (2 * half) octets n (ap (λ o. bit_at o (n % 8)) (sent-partial _ half octets w (n / 8)) ∙ bit_in_bitmap members n most ∙ ap from_bool shown)

spelled-partial : (members : ℕ → Bool) (half : ℕ) (octets : List ℕ) → IsPartial (virtual_bitmap members) half octets → IsSpelled (2 * half) octets
spelled-partial members half octets w = record {
  some = w.some;
  within = omega (arith, w.within, length-virtual_bitmap members);
  in_octets = λ place. subst (λ o. o < 256) (sym (w.others place)) (virtual_bitmap-lt members (2 * half + place));
  no_number_0 = λ here. let aid = (aid-shown members 0 (has-shown members half octets w 0 (omega arith) here)).0 in omega (arith, aid.0);
  used = w.used;
}

-- ---- the laws

-- the octets of a set show it
pub tim_octets_show : (count period : ℕ) (group : Bool) (members : ℕ → Bool) → count < period → period < 256 → (IsTrue group → count ≡ 0) → ShowsTim (tim_octets count period group members) count period group members
unfolding tim_octets
tim_octets_show count period group members counted fits at_0 =
    let bitmap = virtual_bitmap members in
    let half = (partial_of bitmap).0 in
    let octets = (partial_of bitmap).1 in
    let w : IsPartial bitmap half octets = partial_of-is bitmap (omega (arith, length-virtual_bitmap members)) in
    let s = spelled-partial members half octets w in
    let first_is : 2 * half ≡ first_place (2 * half + from_bool group) = sym (control_half half group) in
    let numbers : (n : ℕ) → IsAid n → IsTrue (members n) ↔ HasNumber (2 * half) octets n = λ n aid. (
      λ member. shown-has members half octets w n aid.1 (shown-aid members n aid ∙ member),
      λ here. sym (shown-aid members n aid) ∙ has-shown members half octets w n aid.1 here,
    ) in
    shows count period (2 * half + from_bool group) group octets members counted fits
    (omega (arith, from_bool-le group, s.some, s.within))
    (control_bit half group) at_0
    (subst (λ first. IsSpelled first octets) first_is s)
    (subst (λ first. (n : ℕ) → IsAid n → IsTrue (members n) ↔ HasNumber first octets n) first_is numbers)

-- at most one string shows given values
pub one_string : (t u : List ℕ) (count period : ℕ) (group : Bool) (members : ℕ → Bool) → ShowsTim t count period group members → ShowsTim u count period group members → t ≡ u
one_string t u count period group members w v =
    let same = one_spelling (w.control / 2) (v.control / 2) w.octets v.octets (spelled t count period group members w) (spelled u count period group members v)
    (λ n aid here. (v.numbers n aid).0 ((w.numbers n aid).1 here))
    (λ n aid here. (w.numbers n aid).0 ((v.numbers n aid).1 here)) in
    let control_is : w.control ≡ v.control = same_control w.control v.control same.0 (w.traffic_indicator ∙ sym v.traffic_indicator) in
    w.string ∙ (λ i. tim_id ∷ (length (same.1 i) + 3) ∷ count ∷ period ∷ control_is i ∷ same.1 i) ∙ sym v.string

same_group : (group group' : Bool) → from_bool group ≡ from_bool group' → group ≡ group'
same_group true true e = refl
same_group true false e = absurd (omega (arith, e))
same_group false true e = absurd (omega (arith, e))
same_group false false e = refl

same_member : (b b' : Bool) (P : Type 0) → IsTrue b ↔ P → IsTrue b' ↔ P → b ≡ b'
same_member true b' P p p' = sym (p'.1 (p.0 refl))
same_member false true P p p' = p.1 (p'.0 refl)
same_member false false P p p' = refl

-- a string shows one count, period, group and set at most
pub one_meaning : (t : List ℕ) (count count' period period' : ℕ) (group group' : Bool) (members members' : ℕ → Bool) → ShowsTim t count period group members → ShowsTim t count' period' group' members' → (count ≡ count') × (period ≡ period') × (group ≡ group') × SameNumbers members members'
one_meaning t count count' period period' group group' members members' w v =
    let both = sym w.string ∙ v.string in
    let control_is : w.control ≡ v.control = cc in
    let octets_is : w.octets ≡ v.octets = cc in (
      cc,
      cc,
      same_group group group' (sym w.traffic_indicator ∙ ap (λ c. bit_at c 0) control_is ∙ v.traffic_indicator),
      λ n aid. same_member (members n) (members' n) (HasNumber (first_place w.control) w.octets n) (w.numbers n aid)
          (subst (λ os. IsTrue (members' n) ↔ HasNumber (first_place w.control) os n) (sym octets_is) (subst (λ c. IsTrue (members' n) ↔ HasNumber (first_place c) v.octets n) (sym control_is) (v.numbers n aid))),
    )

-- ---- tests that answer alike

same_shown : (members others : ℕ → Bool) → SameNumbers members others → (n : ℕ) → is_shown members n ≡ is_shown others n
same_shown members others same n = ⊎_elim
    (λ within. let both = and_parts _ _ within in ap (λ b. nat_le 1 n && nat_le n max_aid && b) (same n (leb-true 1 n both.0, leb-true n max_aid both.1)))
    (λ outside. ap (λ b. b && members n) outside ∙ sym (ap (λ b. b && others n) outside))
    (cases_Bool (nat_le 1 n && nat_le n max_aid))

same_bitmap : (members others : ℕ → Bool) → SameNumbers members others → virtual_bitmap members ≡ virtual_bitmap others
unfolding virtual_bitmap octet_at
same_bitmap members others same = λ i. map (λ place. bits_from (λ n. same_shown members others same n i) 8 (8 * place)) (range_with_len 0 251)

-- sets with the same numbers are one set
pub same_tim : (count period : ℕ) (group : Bool) (members others : ℕ → Bool) → SameNumbers members others → tim_octets count period group members ≡ tim_octets count period group others
unfolding tim_octets
same_tim count period group members others same = ap (λ bitmap. element_of count period group (partial_of bitmap)) (same_bitmap members others same)

-- ---- written

-- the octets of a TIM, by what is sent of the virtual bitmap
pub tim_octets_sent : (count period : ℕ) (group : Bool) (members : ℕ → Bool) (octets : List ℕ) (offset : ℕ) → (offset, octets) ≡ partial_of (virtual_bitmap members) → tim_octets count period group members ≡ tim_id ∷ (length octets + 3) ∷ count ∷ period ∷ (2 * offset + from_bool group) ∷ octets
unfolding tim_octets
tim_octets_sent count period group members octets offset sent = ap (element_of count period group) (sym sent)

-- the fields and then the octets, behind what was there
pub tim_written : (old header octets : List ℕ) (count period offset bit : ℕ) (group : Bool) (members : ℕ → Bool) → header ≡ old ++ (tim_id ∷ (length octets + 3) ∷ count ∷ period ∷ (2 * offset + bit) ∷ []) → bit ≡ from_bool group → tim_octets count period group members ≡ tim_id ∷ (length octets + 3) ∷ count ∷ period ∷ (2 * offset + from_bool group) ∷ octets → header ++ octets ≡ old ++ tim_octets count period group members
tim_written old header octets count period offset bit group members header_is bit_is is =
    ap (λ h. h ++ octets) header_is
    ∙ append_assoc old (tim_id ∷ (length octets + 3) ∷ count ∷ period ∷ (2 * offset + bit) ∷ []) octets
    ∙ ap (λ b. old ++ (tim_id ∷ (length octets + 3) ∷ count ∷ period ∷ (2 * offset + b) ∷ octets)) bit_is
    ∙ ap (λ t. old ++ t) (sym is)
