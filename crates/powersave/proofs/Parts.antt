-- The part of the list for one, and the parts for others.
use Rattle.std.proofs.Common.{◌≡◌, ◌≢◌, ◌+◌, true, false, not, List, [], ◌∷◌, ◌++◌, length, filter, drop, Some, None, refl, sym, ap, ◌∙◌, arith}
use Rattle.std.specs.List.{slice_get}
use Rattle.std.specs.Cmp.Lexicographic.{bytes_decides}
use Rattle.std.proofs.lemmas.Bool.{false_from_ne_true}
use Rattle.std.proofs.lemmas.List.{length-map}
use Rattle.std.proofs.lemmas.List.Filters.{length-filter_both}
use Rattle.std.proofs.lemmas.Option.{none-some}
use Rattle.powersave.specs.declared.unit.Whom.{Whom}
use Rattle.powersave.specs.declared.unit.Whom.TheVariants.{One, Group}
use Rattle.powersave.specs.declared.unit.Unit.{Unit as Msdu}
use Rattle.powersave.specs.Keep.{Entry, is_same, is_for, units_for, without_all, without_oldest, room_beside}

-- ---- for whom

abbrev pub msdu : Entry → Msdu
msdu entry = entry.1

pub same_whom : (a b : Whom) → is_same a b ≡ true → a ≡ b
same_whom (One a) (One b) e = ap One ((bytes_decides a b).0 e)
same_whom (One a) Group e = cc
same_whom Group (One b) e = cc
same_whom Group Group e = refl

pub is_same-refl : (a : Whom) → is_same a a ≡ true
is_same-refl (One a) = (bytes_decides a a).1 refl
is_same-refl Group = refl

pub other_whom : (whom other : Whom) → whom ≢ other → is_same whom other ≡ false
other_whom whom other differ = false_from_ne_true (is_same whom other) (λ e. differ (same_whom whom other e))

-- ---- room

pub room_for_others : (whom other : Whom) → whom ≢ other → room_beside whom (Some other) ≡ Some other
room_for_others whom other differ = rw (other_whom other whom (λ same. differ (sym same))) refl

-- ---- how many there are

-- where none is for one, its oldest takes none out
pub without_oldest_none : (whom : Whom) (es : List Entry) → None ≡ slice_get (units_for whom es) 0 → without_oldest whom es ≡ es
without_oldest_none whom [] none = refl
without_oldest_none whom (e ∷ es) none = grind (arith, none, without_oldest_none whom es)

-- its oldest takes one out
pub length-without_oldest : (whom : Whom) (es : List Entry) (unit : Msdu) → Some unit ≡ slice_get (units_for whom es) 0 → length es ≡ length (without_oldest whom es) + 1
length-without_oldest whom [] unit some = absurd (none-some unit (sym some))
length-without_oldest whom (e ∷ es) unit some = grind (arith, some, length-without_oldest whom es unit)

-- those for one, and the others
pub length-without_all : (whom : Whom) (es : List Entry) → length (without_all whom es) + length (units_for whom es) ≡ length es
length-without_all whom es =
    let both = length-filter_both (is_for whom) (λ entry. not (is_for whom entry)) (λ entry. refl) es in
    let units = length-map (filter (is_for whom) es) msdu in
    omega arith

-- ---- what is put, and what is taken out

pub put_for_one : (whom : Whom) (unit : Msdu) (es : List Entry) → units_for whom (es ++ (whom, unit) ∷ []) ≡ units_for whom es ++ unit ∷ []
put_for_one whom unit [] = rw (is_same-refl whom) refl
put_for_one whom unit (e ∷ es) = grind (arith, put_for_one whom unit es)

pub put_for_others : (whom other : Whom) (unit : Msdu) (es : List Entry) → whom ≢ other → units_for other (es ++ (whom, unit) ∷ []) ≡ units_for other es
put_for_others whom other unit [] differ = rw (other_whom whom other differ) refl
put_for_others whom other unit (e ∷ es) differ = grind (arith, put_for_others whom other unit es differ)

-- an entry for one is not for another
pub not_for_other : (whom other : Whom) (e : Entry) → whom ≢ other → is_for whom e ≡ true → is_for other e ≡ false
not_for_other whom other e differ here = other_whom e.0 other (λ same. differ (sym (same_whom e.0 whom here) ∙ same))

pub oldest_for_one : (whom : Whom) (es : List Entry) → units_for whom (without_oldest whom es) ≡ drop 1 (units_for whom es)
oldest_for_one whom [] = refl
oldest_for_one whom (e ∷ es) = grind (arith, oldest_for_one whom es)

pub oldest_for_others : (whom other : Whom) (es : List Entry) → whom ≢ other → units_for other (without_oldest whom es) ≡ units_for other es
oldest_for_others whom other [] differ = refl
oldest_for_others whom other (e ∷ es) differ = grind (arith, oldest_for_others whom other es differ, not_for_other whom other e differ)

pub dropped_for_one : (whom : Whom) (es : List Entry) → units_for whom (without_all whom es) ≡ []
dropped_for_one whom [] = refl
dropped_for_one whom (e ∷ es) = grind (arith, dropped_for_one whom es)

pub dropped_for_others : (whom other : Whom) (es : List Entry) → whom ≢ other → units_for other (without_all whom es) ≡ units_for other es
dropped_for_others whom other [] differ = refl
dropped_for_others whom other (e ∷ es) differ = grind (arith, dropped_for_others whom other es differ, not_for_other whom other e differ)
