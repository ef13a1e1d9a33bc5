-- Octets are one list of records, however they are cut.
use Rattle.std.proofs.Common.{◌≡◌, ℕ, ◌+◌, ◌-◌, ◌*◌, ◌<◌, ◌≤◌, Bool, true, false, List, [], ◌∷◌, ◌++◌, length, take, Option, Some}
use Rattle.std.proofs.Common.{refl, sym, ap, subst, ◌∙◌, arith, append_assoc, length-append, take_at}
use Rattle.std.specs.Prelude.{nat_lt, IfSome, slice_index}
use Rattle.std.specs.List.{AllByRecursion}
use Rattle.std.proofs.lemmas.Bool.{ltb-true, ltb-false, le-ltb}
use Rattle.std.proofs.lemmas.Bool.Decides.{nat_tests}
use Rattle.std.proofs.lemmas.List.{append_cancel_left, get_or_append_left}
use Rattle.std.proofs.lemmas.List.Concat.{flat_map-append}
use Rattle.live_rules.specs.Records.{record_len, IsRecord, IsPartialRecord, lacking, all_octets, AreRecords}

-- ---- how long a record is

-- more octets don't change it
len-on : (xs ys : List ℕ) → 9 ≤ length xs → record_len (xs ++ ys) ≡ record_len xs
len-on xs ys long =
    let longer : 9 ≤ length (xs ++ ys) = omega (arith, length-append xs ys) in
    rw (le-ltb (length (xs ++ ys)) 9 longer, le-ltb (length xs) 9 long, get_or_append_left xs ys 0 7 (omega arith), get_or_append_left xs ys 0 8 (omega arith)) refl

-- where it is known, nine octets are there
len-known : (xs : List ℕ) (n : ℕ) → record_len xs ≡ Some n → 9 ≤ length xs
len-known xs n is = grind (arith, nat_tests)

len-more : (xs ys : List ℕ) (n : ℕ) → record_len xs ≡ Some n → record_len (xs ++ ys) ≡ Some n
len-more xs ys n is = len-on xs ys (len-known xs n is) ∙ is

-- ---- one list

-- no record stands at the front of a partial one
none-whole : (partial r x : List ℕ) → IsPartialRecord partial → IsRecord r → partial ≡ r ++ x → ⊥
none-whole partial r x p h e =
    let is : record_len partial ≡ Some (length r) = ap record_len e ∙ len-more r x (length r) h in
    let less : length partial < length r = subst (λ (o : Option ℕ). IfSome o (λ len. length partial < len)) is p in
    let more : length partial ≡ length r + length x = ap length e ∙ length-append r x in
    omega (arith, less, more)

one-record : (r x s y : List ℕ) → IsRecord r → IsRecord s → r ++ x ≡ s ++ y → (r ≡ s) × (x ≡ y)
one-record r x s y h k e =
    let lens : Some (length r) ≡ Some (length s) =
    sym (len-more r x (length r) h) ∙ ap record_len e ∙ len-more s y (length s) k in
    let same : length r ≡ length s = cc in
    let front : r ≡ s =
    sym (take_at r x (length r) refl) ∙ ap (take (length r)) e ∙ take_at s y (length r) (sym same) in
    (front, append_cancel_left s x y (ap (λ (l : List ℕ). l ++ x) (sym front) ∙ e))

only-by : (rs ss : List (List ℕ)) (b d : List ℕ) → AllByRecursion IsRecord rs → AllByRecursion IsRecord ss → IsPartialRecord b
    → IsPartialRecord d → all_octets rs ++ b ≡ all_octets ss ++ d → (rs ≡ ss) × (b ≡ d)
only-by [] [] b d h k p q e = (refl, e)
only-by [] (s ∷ ss) b d h k p q e =
    absurd (none-whole b s (all_octets ss ++ d) p k.0 (e ∙ append_assoc s (all_octets ss) d))
only-by (r ∷ rs) [] b d h k p q e =
    absurd (none-whole d r (all_octets rs ++ b) q h.0 (sym e ∙ append_assoc r (all_octets rs) b))
only-by (r ∷ rs) (s ∷ ss) b d h k p q e =
    let one = one-record r (all_octets rs ++ b) s (all_octets ss ++ d) h.0 k.0
    (sym (append_assoc r (all_octets rs) b) ∙ e ∙ append_assoc s (all_octets ss) d) in
    let on = only-by rs ss b d h.1 k.1 p q one.1 in
    (ap (λ (x : List ℕ). x ∷ rs) one.0 ∙ ap (λ (xs : List (List ℕ)). s ∷ xs) on.0, on.1)

pub records-one : (octets : List ℕ) (records others : List (List ℕ)) (partial rest : List ℕ)
    → AreRecords octets records partial → AreRecords octets others rest → (records ≡ others) × (partial ≡ rest)
records-one octets records others partial rest h k =
    only-by records others partial rest h.each k.each h.rest k.rest (sym h.all ∙ k.all)

-- ---- more octets

pub each-both : {X : Type 0} (P : X → Type 0) (rs ss : List X) → AllByRecursion P rs → AllByRecursion P ss
    → AllByRecursion P (rs ++ ss)
each-both P [] ss h k = k
each-both P (r ∷ rs) ss h k = (h.0, each-both P rs ss h.1 k)

pub records-more : (octets piece : List ℕ) (records more : List (List ℕ)) (partial rest : List ℕ)
    → AreRecords octets records partial → AreRecords (partial ++ piece) more rest
    → AreRecords (octets ++ piece) (records ++ more) rest
records-more octets piece records more partial rest h k = record {
  all =
      rw
      (h.all, append_assoc (all_octets records) partial piece, k.all, flat_map-append (λ octets. octets) records more)
      (sym (append_assoc (all_octets records) (all_octets more) rest));
  each = each-both IsRecord records more h.each k.each;
  rest = k.rest;
}

-- ---- a partial record, and no more than it lacks

from-len : (xs : List ℕ) (n : ℕ) → record_len xs ≡ Some n → length xs ≤ n → (IsRecord xs → ⊥) → IsPartialRecord xs
from-len xs n is le not =
    subst (λ (o : Option ℕ). IfSome o (λ len. length xs < len)) (sym is) (by (nat_lt (length xs) n) refl)
  where
    by : (b : Bool) → nat_lt (length xs) n ≡ b → length xs < n
    by true lt = ltb-true (length xs) n lt
    by false more =
        let ge : n ≤ length xs = ltb-false (length xs) n more in
        let same : n ≡ length xs = omega (arith, ge, le) in
        absurd (not (is ∙ ap (λ (k : ℕ). Some k) same))

short-on : (xs : List ℕ) → length xs ≤ 9 → (IsRecord xs → ⊥) → IsPartialRecord xs
short-on xs le not = by (nat_lt (length xs) 9) refl
  where
    by : (b : Bool) → nat_lt (length xs) 9 ≡ b → IsPartialRecord xs
    by true short = rw short tt
    by false long =
        from-len xs (9 + (slice_index xs 7 + 256 * slice_index xs 8)) (rw long refl) (omega (arith, le)) not

pub partial-grown : (partial more : List ℕ) → IsPartialRecord partial → length more ≤ lacking partial → (IsRecord (partial ++ more) → ⊥)
    → IsPartialRecord (partial ++ more)
partial-grown partial more p few not = by (nat_lt (length partial) 9) refl
  where
    by : (b : Bool) → nat_lt (length partial) 9 ≡ b → IsPartialRecord (partial ++ more)
    by true short =
        let lt : length partial < 9 = ltb-true (length partial) 9 short in
        let most : length more ≤ 9 - length partial = rw short at few in
        short-on (partial ++ more) (omega (arith, lt, most, length-append partial more)) not
    by false long =
        let n : ℕ = 9 + (slice_index partial 7 + 256 * slice_index partial 8) in
        let is : record_len partial ≡ Some n = rw long refl in
        let lt : length partial < n = rw long at p in
        let most : length more ≤ n - length partial = rw long at few in
        from-len (partial ++ more) n (len-more partial more n is) (omega (arith, lt, most, length-append partial more)) not
