-- A unit that comes back stands in its place among those for its receiver, and the parts for others stay.
use Rattle.std.proofs.Common.{◌≡◌, ◌≢◌, ℕ, zero, suc, ◌+◌, List, [], ◌∷◌, ◌++◌, length, map, take, drop, refl, sym, ap, ◌∙◌, arith}
use Rattle.std.specs.List.{slice_get}
use Rattle.std.proofs.lemmas.List.{length-append, length-map}
use Rattle.powersave.specs.declared.unit.Whom.{Whom}
use Rattle.powersave.specs.declared.unit.Unit.{Unit as Msdu}
use Rattle.powersave.specs.Keep.{Entry, units_for, without_oldest}
use Rattle.powersave.specs.Returns.{without_first_of, up_to_it, put_back}
use Rattle.powersave.proofs.Parts.{is_same-refl, other_whom, without_oldest_none, length-without_oldest, oldest_for_one, oldest_for_others}

abbrev nothing : (X : Type 0) → List X
nothing X = []

pub drop_none : {X : Type 0} (n : ℕ) → drop n (nothing X) ≡ nothing X
drop_none zero = refl
drop_none (suc n) = refl

pub take_none : {X : Type 0} (n : ℕ) → take n (nothing X) ≡ nothing X
take_none zero = refl
take_none (suc n) = refl

drop_later : {X : Type 0} (n : ℕ) (xs : List X) → drop n (drop 1 xs) ≡ drop (suc n) xs
drop_later n [] = drop_none n
drop_later n (x ∷ xs) = refl

-- ---- the first units for one leave

pub first_of_one : (whom : Whom) (n : ℕ) (es : List Entry) → units_for whom (without_first_of whom n es) ≡ drop n (units_for whom es)
first_of_one whom zero es = refl
first_of_one whom (suc n) es =
    first_of_one whom n (without_oldest whom es) ∙ ap (drop n) (oldest_for_one whom es) ∙ drop_later n (units_for whom es)

pub first_of_others : (whom other : Whom) (n : ℕ) (es : List Entry) → whom ≢ other → units_for other (without_first_of whom n es) ≡ units_for other es
first_of_others whom other zero es differ = refl
first_of_others whom other (suc n) es differ =
    first_of_others whom other n (without_oldest whom es) differ ∙ oldest_for_others whom other es differ

-- where there is none, none leaves
pub first_of_none : (whom : Whom) (n : ℕ) (es : List Entry) → units_for whom es ≡ [] → without_first_of whom n es ≡ es
first_of_none whom zero es none = refl
first_of_none whom (suc n) es none =
    let stays = without_oldest_none whom es (sym (ap (λ us. slice_get us 0) none)) in
    ap (without_first_of whom n) stays ∙ first_of_none whom n es none

-- as many as there are leave
length-without_first_of : (whom : Whom) (n : ℕ) (es : List Entry) → length (without_first_of whom n es) + length (take n (units_for whom es)) ≡ length es
length-without_first_of whom zero es = omega arith
length-without_first_of whom (suc n) es =
    by (units_for whom es) refl (length-without_first_of whom n (without_oldest whom es))
  where
    by : (us : List Msdu) → units_for whom es ≡ us
        → length (without_first_of whom n (without_oldest whom es)) + length (take n (units_for whom (without_oldest whom es))) ≡ length (without_oldest whom es)
        → length (without_first_of whom (suc n) es) + length (take (suc n) us) ≡ length es
    by [] none rest = ap (λ fs. length fs + 0) (first_of_none whom (suc n) es none) ∙ omega arith
    by (u ∷ us) some rest =
        let one = length-without_oldest whom es u (sym (ap (λ vs. slice_get vs 0) some)) in
        let same = ap (λ vs. length (take n vs)) (oldest_for_one whom es ∙ ap (drop 1) some) in
        omega (arith, one, rest, same)

-- ---- and stand in front with the unit

abbrev pub for_one : Whom → Msdu → Entry
for_one whom u = (whom, u)

units_in_front : (whom : Whom) (us : List Msdu) (es : List Entry) → units_for whom (map (for_one whom) us ++ es) ≡ us ++ units_for whom es
units_in_front whom [] es = refl
units_in_front whom (u ∷ us) es = rw (is_same-refl whom) (ap (λ vs. u ∷ vs) (units_in_front whom us es))

others_in_front : (whom other : Whom) (us : List Msdu) (es : List Entry) → whom ≢ other → units_for other (map (for_one whom) us ++ es) ≡ units_for other es
others_in_front whom other [] es differ = refl
others_in_front whom other (u ∷ us) es differ = rw (other_whom whom other differ) (others_in_front whom other us es differ)

append_one : {X : Type 0} (x : X) (xs ys : List X) → (xs ++ x ∷ []) ++ ys ≡ xs ++ x ∷ ys
append_one x [] ys = refl
append_one x (y ∷ xs) ys = ap (λ zs. y ∷ zs) (append_one x xs ys)

pub back_for_one : (whom : Whom) (before : ℕ) (unit : Msdu) (es : List Entry) → units_for whom (put_back whom before unit es) ≡ take before (units_for whom es) ++ unit ∷ drop before (units_for whom es)
back_for_one whom before unit es =
    units_in_front whom (up_to_it whom before unit es) (without_first_of whom before es)
    ∙ ap (λ us. up_to_it whom before unit es ++ us) (first_of_one whom before es)
    ∙ append_one unit (take before (units_for whom es)) (drop before (units_for whom es))

pub back_for_others : (whom other : Whom) (before : ℕ) (unit : Msdu) (es : List Entry) → whom ≢ other → units_for other (put_back whom before unit es) ≡ units_for other es
back_for_others whom other before unit es differ =
    others_in_front whom other (up_to_it whom before unit es) (without_first_of whom before es) differ
    ∙ first_of_others whom other before es differ

pub length-put_back : (whom : Whom) (before : ℕ) (unit : Msdu) (es : List Entry) → length (put_back whom before unit es) ≡ length es + 1
length-put_back whom before unit es =
    let front = up_to_it whom before unit es in
    let all = length-append (map (for_one whom) front) (without_first_of whom before es) in
    let some = length-map front (for_one whom) in
    let one = length-append (take before (units_for whom es)) (unit ∷ []) in
    let rest = length-without_first_of whom before es in
    omega (arith, all, some, one, rest)
