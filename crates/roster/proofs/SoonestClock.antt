-- The soonest of the clocks that are listed: where one is set, where all are looked up, and up to when none is due.
use Rattle.std.proofs.Common.{◌≡◌, ◌≢◌, ◌∙◌, ℕ, ◌+◌, ◌<◌, ◌≤◌, Bool, true, false, nat_eq, List, [], ◌∷◌, ◌++◌, length, set, slice_get, filter, Option, Some, None, refl, sym, ap, subst, arith, inl, inr}
use Rattle.std.specs.Option.{IsSomeAnd}
use Rattle.std.proofs.lemmas.Bool.{both_ways, cases_eq, eq-eqb, false_from_ne_true, le-ltb, or_left, or_right}
use borrow.Author.Tests.{eqb-true}
use Rattle.aid_pool.specs.LeastFree.{is_among}
use Rattle.roster.specs.AgingClocks.{IsNoSooner, AreNoSooner, IsSetAt, StayAt, is_due, due_with, due_at}
use Rattle.roster.specs.declared.aging_clocks.AgingClock.{AgingClock}
use Rattle.roster.proofs.ClocksKept.{get-set, get-set_other}

sooner : (a b : ℕ) (o : Option AgingClock) → a ≤ b → IsSomeAnd o (IsNoSooner b) → IsSomeAnd o (IsNoSooner a)
sooner a b None le is = is
sooner a b (Some c) le is = omega (arith, le, is)

-- where none is listed
pub soonest-none : (soonest : ℕ) (clocks : List AgingClock) (aids : List ℕ) → aids ≡ [] → AreNoSooner soonest clocks aids
soonest-none soonest clocks aids none n among = let same : is_among aids n ≡ false = ap (λ (ns : List ℕ). is_among ns n) none in absurd (both_ways (is_among aids n) same among)

-- ---- one is set

pub soonest-set : (clocks : List AgingClock) (old_aids aids : List ℕ) (soonest new n : ℕ) (c : AgingClock) → n < length clocks → new ≤ soonest → IsNoSooner new c → ((m : ℕ) → m ≢ n → is_among aids m ≡ true → is_among old_aids m ≡ true)
    → AreNoSooner soonest clocks old_aids → AreNoSooner new (set clocks n c) aids
soonest-set clocks old_aids aids soonest new n c within le is listed h m among = elim (cases_eq m n) [
  | inl same ↦ subst (λ (o : Option AgingClock). IsSomeAnd o (IsNoSooner new)) (sym (ap (slice_get (set clocks n c)) same ∙ get-set clocks n c within)) is
  | inr other ↦ subst (λ (o : Option AgingClock). IsSomeAnd o (IsNoSooner new)) (sym (get-set_other clocks n m c other)) (sooner new soonest (slice_get clocks m) le (h m (listed m other among)))
]

-- more clocks
pub soonest-more : (soonest : ℕ) (clocks more : List AgingClock) (aids : List ℕ) → StayAt clocks more → AreNoSooner soonest clocks aids → AreNoSooner soonest more aids
soonest-more soonest clocks more aids stay h n among = by (slice_get clocks n) refl (h n among)
  where
    by : (o : Option AgingClock) → slice_get clocks n ≡ o → IsSomeAnd o (IsNoSooner soonest) → IsSomeAnd (slice_get more n) (IsNoSooner soonest)
    by None was is = absurd is
    by (Some c) was is = subst (λ (o : Option AgingClock). IsSomeAnd o (IsNoSooner soonest)) (sym (stay n c was)) is

-- ---- all are looked up

-- so it is of those that aren't to come
abbrev pub AreNoSoonerBut : (soonest : ℕ) → List AgingClock → (aids rest : List ℕ) → Type 0
AreNoSoonerBut soonest clocks aids rest = (n : ℕ) → is_among aids n ≡ true → IsSomeAnd (slice_get clocks n) (λ c. is_among rest n ≡ false → IsNoSooner soonest c)

among-filtered : (p : ℕ → Bool) (ns : List ℕ) (n : ℕ) → is_among (filter p ns) n ≡ true → is_among ns n ≡ true
among-filtered p [] n among = among
among-filtered p (m ∷ ns) n among = grind (arith, among, among-filtered p ns n)

-- each is to come where some have left the list
pub soonest-begins : (before soonest : ℕ) (clocks same : List AgingClock) (p : ℕ → Bool) (aids left : List ℕ) → same ≡ clocks → left ≡ filter p aids → AreNoSooner before clocks aids → AreNoSoonerBut soonest same left left
soonest-begins before soonest clocks same p aids left is_same is_left h n among =
    subst (λ (cs : List AgingClock). IsSomeAnd (slice_get cs n) (λ c. is_among left n ≡ false → IsNoSooner soonest c)) (sym is_same)
    (by (slice_get clocks n) (h n (among-filtered p aids n (subst (λ (ns : List ℕ). is_among ns n ≡ true) is_left among))))
  where
    by : (o : Option AgingClock) → IsSomeAnd o (IsNoSooner before) → IsSomeAnd o (λ c. is_among left n ≡ false → IsNoSooner soonest c)
    by None is = is
    by (Some c) is = λ passed. absurd (both_ways (is_among left n) passed among)

pub soonest-goes-on : (soonest until new n : ℕ) (clocks after : List AgingClock) (aids rest : List ℕ) → new ≤ soonest → new ≤ until → IsSetAt n until clocks after → AreNoSoonerBut soonest clocks aids (n ∷ rest) → AreNoSoonerBut new after aids rest
soonest-goes-on soonest until new n clocks after aids rest le le_until step h m among = elim (cases_eq m n) [
  | inl same ↦ here same (slice_get clocks m) refl (h m among)
  | inr other ↦ subst (λ (o : Option AgingClock). IsSomeAnd o (λ c. is_among rest m ≡ false → IsNoSooner new c)) (sym (step.0 m other)) (there other (slice_get clocks m) (h m among))
]
  where
    set_so : (o : Option AgingClock) → IsSomeAnd o (IsNoSooner until) → IsSomeAnd o (λ c. is_among rest m ≡ false → IsNoSooner new c)
    set_so None is = is
    set_so (Some c) is = λ passed. omega (arith, is, le_until)

    here : m ≡ n → (o : Option AgingClock) → slice_get clocks m ≡ o → IsSomeAnd o (λ c. is_among (n ∷ rest) m ≡ false → IsNoSooner soonest c) → IsSomeAnd (slice_get after m) (λ c. is_among rest m ≡ false → IsNoSooner new c)
    here same None was is = absurd is
    here same (Some c) was is = set_so (slice_get after m) (subst (λ (i : ℕ). IsSomeAnd (slice_get after i) (IsNoSooner until)) (sym same) (step.1 c (ap (slice_get clocks) (sym same) ∙ was)))

    there : m ≢ n → (o : Option AgingClock) → IsSomeAnd o (λ c. is_among (n ∷ rest) m ≡ false → IsNoSooner soonest c) → IsSomeAnd o (λ c. is_among rest m ≡ false → IsNoSooner new c)
    there other None is = is
    there other (Some c) is = λ passed. let young = is (rw (false_from_ne_true (nat_eq n m) (λ same. other (sym (eqb-true n m same)))) passed) in omega (arith, young, le)

pub soonest-ends : (soonest : ℕ) (clocks : List AgingClock) (aids : List ℕ) → AreNoSoonerBut soonest clocks aids [] → AreNoSooner soonest clocks aids
soonest-ends soonest clocks aids h n among = by (slice_get clocks n) (h n among)
  where
    by : (o : Option AgingClock) → IsSomeAnd o (λ c. is_among [] n ≡ false → IsNoSooner soonest c) → IsSomeAnd o (IsNoSooner soonest)
    by None is = is
    by (Some c) is = is refl

-- ---- up to the soonest none is due

pub none-due : (clock soonest : ℕ) (clocks : List AgingClock) (aids : List ℕ) → clock ≤ soonest → AreNoSooner soonest clocks aids → due_at clock clocks aids ≡ []
none-due clock soonest clocks [] le h = refl
none-due clock soonest clocks (n ∷ aids) le h =
    ap (λ os. os ++ due_at clock clocks aids) (by (slice_get clocks n) (h n (or_left (nat_eq n n) (is_among aids n) (eq-eqb n n refl))))
    ∙ none-due clock soonest clocks aids le (λ m among. h m (or_right (nat_eq n m) (is_among aids m) among))
  where
    by : (o : Option AgingClock) → IsSomeAnd o (IsNoSooner soonest) → due_with clock o ≡ []
    by None is = refl
    by (Some c) is = let young : is_due clock c ≡ false = le-ltb (c.at + c.listen) clock (omega (arith, is, le)) in rw young refl
