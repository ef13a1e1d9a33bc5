-- A word that spells an address is ASCII, so that a word that is no text spells none.
use Rattle.std.proofs.Common.{◌≡◌, ℕ, ◌+◌, ◌*◌, ◌<◌, true, List, [], ◌∷◌, length, get_or, Option, Some, None, refl}
use Rattle.std.proofs.Common.{arith, inl, inr, below_none, below_more}
use Rattle.std.specs.Option.{option_map, option_and_then}
use Rattle.std.specs.Str.{IsUtf8, IsAscii}
use Rattle.std.proofs.lemmas.Bool.{cases_Bool, cases_lt, and_parts, eqb-true}
use Rattle.std.proofs.lemmas.Bool.Decides.{nat_tests}
use Rattle.std.proofs.lemmas.List.{get_or_past}
use Rattle.std.proofs.lemmas.Str.{IsUtf8-from_ascii}
use Rattle.hex.specs.Hex.{hex_digit_value}
use Rattle.mac_frame.specs.Address.{◌>>=◌, octet_of, octet_at, is_parted, address_of}

digit_is_ascii : (c v : ℕ) → hex_digit_value c ≡ Some v → c < 128
digit_is_ascii c v e = grind (arith, nat_tests)

-- both digits of an octet
record AreAscii (high low : ℕ) : Type 0 where
  first : high < 128
  second : low < 128

digits_are_ascii : (high low v : ℕ) → octet_of high low ≡ Some v → AreAscii high low
digits_are_ascii high low v is = by (hex_digit_value high) (hex_digit_value low) refl refl is
  where
    by : (h l : Option ℕ) → hex_digit_value high ≡ h → hex_digit_value low ≡ l
        → option_and_then (λ x. option_map (λ y. 16 * x + y) l) h ≡ Some v → AreAscii high low
    by None l eh el is = absurd cc
    by (Some x) None eh el is = absurd cc
    by (Some x) (Some y) eh el is = record { first = digit_is_ascii high x eh; second = digit_is_ascii low y el }

-- where the octet at a place is there, its digits are ASCII
abbrev AsciiAt : List ℕ → ℕ → Type 0
AsciiAt text k = get_or text k 0 < 128

-- what `is_parted` says
record IsParted (text : List ℕ) : Type 0 where
  long : length text ≡ 17
  after_first : get_or text 2 0 ≡ 58
  after_second : get_or text 5 0 ≡ 58
  after_third : get_or text 8 0 ≡ 58
  after_fourth : get_or text 11 0 ≡ 58
  after_fifth : get_or text 14 0 ≡ 58

parted : (text : List ℕ) → is_parted text ≡ true → IsParted text
parted text h =
    let e = and_parts _ _ h in
    let d = and_parts _ _ e.0 in
    let c = and_parts _ _ d.0 in
    let b = and_parts _ _ c.0 in
    let a = and_parts _ _ b.0 in
    record {
      long = eqb-true _ _ a.0;
      after_first = eqb-true _ _ a.1;
      after_second = eqb-true _ _ b.1;
      after_third = eqb-true _ _ c.1;
      after_fourth = eqb-true _ _ d.1;
      after_fifth = eqb-true _ _ e.1;
    }

address_is_ascii : (text : List ℕ) (a b c d e f : ℕ) → IsParted text → octet_at text 0 ≡ Some a
    → octet_at text 1 ≡ Some b → octet_at text 2 ≡ Some c → octet_at text 3 ≡ Some d → octet_at text 4 ≡ Some e
    → octet_at text 5 ≡ Some f → IsAscii text
address_is_ascii text a b c d e f p first second third fourth fifth sixth =
    let d0 = digits_are_ascii (get_or text 0 0) (get_or text 1 0) a first in
    let d1 = digits_are_ascii (get_or text 3 0) (get_or text 4 0) b second in
    let d2 = digits_are_ascii (get_or text 6 0) (get_or text 7 0) c third in
    let d3 = digits_are_ascii (get_or text 9 0) (get_or text 10 0) d fourth in
    let d4 = digits_are_ascii (get_or text 12 0) (get_or text 13 0) e fifth in
    let d5 = digits_are_ascii (get_or text 15 0) (get_or text 16 0) f sixth in
    let P : ℕ → Type 0 = AsciiAt text in
    let k2 =
    below_more P 2 (below_more P 1 (below_more P 0 (below_none P) d0.first) d0.second) (omega (arith, p.after_first)) in
    let k5 = below_more P 5 (below_more P 4 (below_more P 3 k2 d1.first) d1.second) (omega (arith, p.after_second)) in
    let k8 = below_more P 8 (below_more P 7 (below_more P 6 k5 d2.first) d2.second) (omega (arith, p.after_third)) in
    let k11 =
    below_more P 11 (below_more P 10 (below_more P 9 k8 d3.first) d3.second) (omega (arith, p.after_fourth)) in
    let k14 =
    below_more P 14 (below_more P 13 (below_more P 12 k11 d4.first) d4.second) (omega (arith, p.after_fifth)) in
    let k16 = below_more P 16 (below_more P 15 k14 d5.first) d5.second in
    λ k. elim (cases_lt k 17) [
      | inl within ↦ k16 k within
      | inr past ↦ omega (arith, get_or_past text k 0 (omega (arith, p.long)))
    ]

-- six octets that are not all there are none
not_all : (oa ob oc od oe of : Option ℕ)
    → ((a b c d e f : ℕ) → oa ≡ Some a → ob ≡ Some b → oc ≡ Some c → od ≡ Some d → oe ≡ Some e → of ≡ Some f → ⊥)
    → (do a ← oa; b ← ob; c ← oc; d ← od; e ← oe; f ← of; Some (a ∷ b ∷ c ∷ d ∷ e ∷ f ∷ [])) ≡ None
not_all None ob oc od oe of h = refl
not_all (Some a) None oc od oe of h = refl
not_all (Some a) (Some b) None od oe of h = refl
not_all (Some a) (Some b) (Some c) None oe of h = refl
not_all (Some a) (Some b) (Some c) (Some d) None of h = refl
not_all (Some a) (Some b) (Some c) (Some d) (Some e) None h = refl
not_all (Some a) (Some b) (Some c) (Some d) (Some e) (Some f) h = absurd (h a b c d e f refl refl refl refl refl refl)

-- a word that is no text spells no address
pub no_address : (word : List ℕ) → (IsUtf8 word → ⊥) → address_of word ≡ None
no_address word bad = elim (cases_Bool (is_parted word)) [
  | inl is ↦
      rw is
      (not_all (octet_at word 0) (octet_at word 1) (octet_at word 2) (octet_at word 3) (octet_at word 4) (octet_at word 5)
      (λ a b c d e f pa pb pc pd pe pf. bad (IsUtf8-from_ascii word (address_is_ascii word a b c d e f (parted word is) pa pb pc pd pe pf))))
  | inr other ↦ rw other refl
]
