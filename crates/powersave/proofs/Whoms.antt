-- The equality by which a queue is found tells apart what `is_same` does.
use Rattle.std.proofs.Common.{◌≡◌, ℕ, Bool, false, Some, None, List, sym, ap, ◌∙◌, refl, subst}
use Rattle.std.specs.Cmp.{both_ways}
use Rattle.std.specs.Cmp.Lexicographic.{bytes_decides}
use Rattle.std.specs.List.{IsDistinct}
use Rattle.std.specs.Map.{keys_of, lookup}
use Rattle.std.specs.Str.{bytes_eq}
use Rattle.indexmap.specs.IndexMap.{IndexMap, get_by, IsUnique}
use Rattle.powersave.specs.contracts.unit.WhomPartialEq.TheImpl as equality
use Rattle.powersave.specs.declared.unit.Whom.{Whom}
use Rattle.powersave.specs.declared.unit.Whom.TheVariants.{One, Group}
use Rattle.powersave.specs.Queues.{Queue, Queues, is_whom}

abbrev pub whom_eq : Whom → Whom → Bool
whom_eq = equality.ghosts.eq

bytes_eq-sym : (a b : List ℕ) → bytes_eq a b ≡ bytes_eq b a
bytes_eq-sym a b = both_ways (bytes_eq a b) (bytes_eq b a) (λ e. (bytes_decides b a).1 (sym ((bytes_decides a b).0 e))) (λ e. (bytes_decides a b).1 (sym ((bytes_decides b a).0 e)))

same_by_equality : (a b : Whom) → whom_eq a b ≡ is_whom a b
same_by_equality (One a) (One b) = bytes_eq-sym a b
same_by_equality (One a) Group = refl
same_by_equality Group (One b) = refl
same_by_equality Group Group = refl

pub is_at_whom : (whom : Whom) → whom_eq whom ≡ is_whom whom
is_at_whom whom = λ i k. same_by_equality whom k i

module _ {S : Type 0} (whom : Whom) (m : IndexMap Whom Queue S) where
  pub found_in : (q : Queue) → Some q ≡ get_by (whom_eq whom) m → lookup (is_whom whom) m.entries ≡ Some q
  found_in q found = sym (found ∙ ap (λ t. lookup t m.entries) (is_at_whom whom))

  pub missing_in : None ≡ get_by (whom_eq whom) m → lookup (is_whom whom) m.entries ≡ None
  missing_in missing = sym (missing ∙ ap (λ t. lookup t m.entries) (is_at_whom whom))

-- the keys of the map differ
pub one_each : {S : Type 0} (m : IndexMap Whom Queue S) → IsUnique whom_eq m → IsDistinct is_whom (keys_of m.entries)
one_each m unique = subst (λ same. IsDistinct same (keys_of m.entries)) (λ i a b. same_by_equality a b i) unique

-- what is found for another is what was found for it
pub stays_for : (whom other : Whom) (old new : Queues) → is_whom whom other ≡ false → (whom_eq whom other ≡ false → lookup (whom_eq other) new ≡ lookup (whom_eq other) old) → lookup (is_whom other) new ≡ lookup (is_whom other) old
stays_for whom other old new apart stays =
    ap (λ t. lookup t new) (sym (is_at_whom other))
    ∙ stays (same_by_equality whom other ∙ apart)
    ∙ ap (λ t. lookup t old) (is_at_whom other)
