-- The units that are kept, and whoever they are kept for.
use Rattle.std.proofs.Common.{◌≡◌, ℕ, not, ◌+◌, ◌≤◌, Bool, true, false, List, [], ◌∷◌, ◌++◌, length, refl, ap, ◌∙◌, arith}
use Rattle.std.specs.Prelude.{filter, nat_lt}
use Rattle.std.specs.List.{list_any}
use Rattle.std.specs.Str.{bytes_eq}
use Rattle.std.proofs.lemmas.Bool.{cond_both, not-true}
use Rattle.std.proofs.lemmas.Bool.Decides.{nat_tests}
use Rattle.powersave.specs.Keep.{Entry, is_same, is_for, units_for, without_all, without_first, without_oldest}
use Rattle.powersave.specs.declared.unit.Whom.{Whom}
use Rattle.powersave.specs.declared.unit.Whom.TheVariants.{One, Group}
use Rattle.powersave.specs.declared.unit.Unit.{Unit as DataUnit}
use Rattle.roster.specs.Keeping.{aid_for}
use Rattle.stations.specs.Stations.{Table, state_of, dozes_with, is_dozing, changed, IsModeAlone}
use Rattle.roster.specs.KeptUnits.{IsKeptFor, AreKeptFor, group_is_kept}
use Rattle.stations.specs.declared.table.Change.{Change}
use Rattle.stations.specs.declared.table.Change.TheVariants as changes
use Rattle.stations.specs.Changes.{ModesAlone}

-- ---- a mode is nothing to an identifier

pub aid_for-mode : ModesAlone → (change : Change) (whom : Whom) (t : Table) → IsModeAlone change → aid_for whom (changed change t) ≡ aid_for whom t
aid_for-mode modes changes.Nothing whom t alone = refl
aid_for-mode modes (changes.Authenticate a) whom t alone = absurd alone
aid_for-mode modes (changes.Associate a listen) whom t alone = absurd alone
aid_for-mode modes (changes.Disassociate a) whom t alone = absurd alone
aid_for-mode modes (changes.Forget a) whom t alone = absurd alone
aid_for-mode modes (changes.SetMode a doze) (One b) t alone = modes.identifier a b doze t
aid_for-mode modes (changes.SetMode a doze) Group t alone = refl

-- ---- who units are kept for

-- an entry at a time
pub kept-where : (t u : Table) → ((b : List ℕ) → is_dozing b t ≡ true → is_dozing b u ≡ true) → (es : List Entry) → AreKeptFor t es → AreKeptFor u es
kept-where t u stays [] h = tt
kept-where t u stays (e ∷ es) h = (one e.0 h.0, kept-where t u stays es h.1)
  where
    one : (w : Whom) → IsKeptFor t w → IsKeptFor u w
    one (One b) k = stays b k
    one Group k = tt

-- where one station changes, and the units for it leave
pub kept-elsewhere : (a : List ℕ) (t u : Table) → ((b : List ℕ) → bytes_eq b a ≡ false → state_of b u ≡ state_of b t) → (es : List Entry) → AreKeptFor t es → AreKeptFor u (without_all (One a) es)
kept-elsewhere a t u same [] h = tt
kept-elsewhere a t u same (e ∷ es) h =
    let rest = kept-elsewhere a t u same es h.1 in
    cond_both (not (is_for (One a) e)) _ _ (AreKeptFor u) (λ other. (one e.0 (not-true _ other) h.0, rest)) (λ _. rest)
  where
    one : (w : Whom) → is_same w (One a) ≡ false → IsKeptFor t w → IsKeptFor u w
    one (One b) other k = ap dozes_with (same b other) ∙ k
    one Group other k = tt

pub kept-filtered : (t : Table) (p : Entry → Bool) (es : List Entry) → AreKeptFor t es → AreKeptFor t (filter p es)
kept-filtered t p [] h = tt
kept-filtered t p (e ∷ es) h = let rest = kept-filtered t p es h.1 in cond_both (p e) _ _ (AreKeptFor t) (λ _. (h.0, rest)) (λ _. rest)

pub kept-without_first : (t : Table) (p : Entry → Bool) (es : List Entry) → AreKeptFor t es → AreKeptFor t (without_first p es)
kept-without_first t p [] h = tt
kept-without_first t p (e ∷ es) h = cond_both (p e) _ _ (AreKeptFor t) (λ _. h.1) (λ _. (h.0, kept-without_first t p es h.1))

pub kept-push : (t : Table) (w : Whom) (u : DataUnit) (es : List Entry) → AreKeptFor t es → IsKeptFor t w → AreKeptFor t (es ++ (w, u) ∷ [])
kept-push t w u [] h k = (k, tt)
kept-push t w u (e ∷ es) h k = (h.0, kept-push t w u es h.1 k)

-- ---- how many there are

pub length-without_first : (p : Entry → Bool) (es : List Entry) → length (without_first p es) ≤ length es
length-without_first p [] = omega arith
length-without_first p (e ∷ es) = grind (arith, length-without_first p es)

-- those for one and the others are all
pub length-parted : (w : Whom) (es : List Entry) → length (units_for w es) + length (without_all w es) ≡ length es
length-parted w [] = refl
length-parted w (e ∷ es) = grind (arith, length-parted w es)

-- none leaves where there is none
pub oldest-none : (w : Whom) (es : List Entry) → units_for w es ≡ [] → without_oldest w es ≡ es
oldest-none w [] none = refl
oldest-none w (e ∷ es) none = grind (arith, none, oldest-none w es)

-- ---- those for the group

-- where some are for one, one stands among them
pub some-for : (w : Whom) (es : List Entry) → list_any (is_for w) es ≡ nat_lt 0 (length (units_for w es))
some-for w [] = refl
some-for w (e ∷ es) = grind (arith, nat_tests, some-for w es)

-- the units of a station that leave are none of the group's
pub group-stays : (a : List ℕ) (es : List Entry) → group_is_kept (without_all (One a) es) ≡ group_is_kept es
group-stays a [] = refl
group-stays a (e ∷ es) = grind (arith, group-stays a es, none e.0)
  where
    none : (w : Whom) → is_same w (One a) ≡ true → is_same w Group ≡ false
    none (One b) h = refl
    none Group h = absurd (cc)
