-- Units that are put in front of all others, with the numbers below theirs.
use Rattle.std.proofs.Common.{◌≡◌, ℕ, zero, suc, ◌+◌, ◌<◌, ◌≤◌, Bool, true, false, cond, ltb, List, [], ◌∷◌, ◌++◌, length, map, filter, drop, Some, refl, sym, ap, ◌∙◌, arith, inl, inr}
use Rattle.std.specs.List.{AllByRecursion}
use Rattle.std.specs.Map.{lookup, set_value}
use Rattle.std.proofs.lemmas.Bool.{cases_Bool, cond_both, le-ltb}
use Rattle.std.proofs.lemmas.Option.{none-some, same_Some}
use Rattle.powersave.specs.declared.unit.Whom.{Whom}
use Rattle.powersave.specs.declared.unit.Unit.{Unit as Msdu}
use Rattle.powersave.specs.declared.queues.Arrived.{Arrived}
use Rattle.powersave.specs.Keep.{without_first}
use Rattle.powersave.specs.Returns.{without_firsts}
use Rattle.powersave.specs.Queues.{Queue, Queues, Arrival, arrival_for, put_in_order, merged, arrivals, first_number, numbered_from, Numbers, IsNumbered, AreNumbered, IsRising}
use Rattle.powersave.proofs.Arrivals.{AllAbove, IsInOrder, put_first, without_first-none, IsRising-without_first, IsInOrder-without_first}
use Rattle.powersave.proofs.Merges.{passes, IsOnce, IsInOrder-arrivals, without_first-merged_failing, without_first-merged_only, filter-arrivals_none}
use Rattle.powersave.proofs.Returns.{drop_none}

-- ---- the units that were put have no lower numbers

-- where these numbers were given
abbrev pub AreHigher : Numbers → List Arrival → Type 0
AreHigher given bs = AllByRecursion (λ b. first_number ≤ b.0 + given.in_front) bs

AreHigher-put : (given : Numbers) (a : Arrival) (bs : List Arrival) → first_number ≤ a.0 + given.in_front → AreHigher given bs → AreHigher given (put_in_order a bs)
AreHigher-put given a [] here higher = (here, tt)
AreHigher-put given a (b ∷ bs) here higher = cond_both (ltb a.0 b.0) _ _ (AreHigher given) (λ _. (here, higher)) (λ _. (higher.0, AreHigher-put given a bs here higher.1))

AreHigher-merged : (given : Numbers) (k : Whom) (queue : List Arrived) (others : List Arrival) → IsNumbered given queue → AreHigher given others → AreHigher given (merged k queue others)
AreHigher-merged given k [] others numbered higher = higher
AreHigher-merged given k (a ∷ queue) others numbered higher = AreHigher-put given (arrival_for k a) (merged k queue others) numbered.3 (AreHigher-merged given k queue others numbered.2 higher)

pub AreHigher-arrivals : (given : Numbers) (queues : Queues) → AreNumbered given queues → AreHigher given (arrivals queues)
AreHigher-arrivals given [] numbered = tt
AreHigher-arrivals given (q ∷ queues) numbered = AreHigher-merged given q.0 q.1.items (arrivals queues) numbered.0 (AreHigher-arrivals given queues numbered.1)

module _ (p : Arrival → Bool) where
  AreHigher-without_first : (given : Numbers) (bs : List Arrival) → AreHigher given bs → AreHigher given (without_first p bs)
  AreHigher-without_first given [] higher = tt
  AreHigher-without_first given (b ∷ bs) higher = cond_both (p b) _ _ (AreHigher given) (λ _. higher.1) (λ _. (higher.0, AreHigher-without_first given bs higher.1))

  pub AreHigher-without_firsts : (given : Numbers) (n : ℕ) (bs : List Arrival) → AreHigher given bs → AreHigher given (without_firsts p n bs)
  AreHigher-without_firsts given zero bs higher = higher
  AreHigher-without_firsts given (suc n) bs higher = AreHigher-without_firsts given n (without_first p bs) (AreHigher-without_first given bs higher)

  pub IsRising-without_firsts : (n : ℕ) (bs : List Arrival) → IsRising bs → IsRising (without_firsts p n bs)
  IsRising-without_firsts zero bs rising = rising
  IsRising-without_firsts (suc n) bs rising = IsRising-without_firsts n (without_first p bs) (IsRising-without_first p bs rising)

-- ---- units in front

-- units for one with the numbers from this one on
abbrev pub front : Whom → ℕ → List Msdu → List Arrival
front k n us = map (arrival_for k) (numbered_from n us)

module _ (given : Numbers) where
  -- they are below those that were put
  abbrev pub Fits : ℕ → List Msdu → Type 0
  Fits n us = n + length us + given.in_front ≤ first_number

  below_all : (m : ℕ) (bs : List Arrival) → m + given.in_front < first_number → AreHigher given bs → AllAbove m bs
  below_all m [] lower higher = tt
  below_all m (b ∷ bs) lower higher = let here = higher.0 in (omega (arith, lower, here), below_all m bs lower higher.1)

  above_front : (k : Whom) (m n : ℕ) (us : List Msdu) (bs : List Arrival) → m < n → m + given.in_front < first_number → AreHigher given bs → AllAbove m (front k n us ++ bs)
  above_front k m n [] bs lt lower higher = below_all m bs lower higher
  above_front k m n (u ∷ us) bs lt lower higher = (lt, above_front k m (n + 1) us bs (omega (arith, lt)) lower higher)

  pub IsRising-front : (k : Whom) (n : ℕ) (us : List Msdu) (bs : List Arrival) → Fits n us → AreHigher given bs → IsRising bs → IsRising (front k n us ++ bs)
  IsRising-front k n [] bs fits higher rising = rising
  IsRising-front k n (u ∷ us) bs fits higher rising =
      (above_front k n (n + 1) us bs (omega arith) (omega (arith, fits)) higher, IsRising-front k (n + 1) us bs (omega (arith, fits)) higher rising)

  merged-front : (k : Whom) (n : ℕ) (us : List Msdu) (bs : List Arrival) → Fits n us → AreHigher given bs → merged k (numbered_from n us) bs ≡ front k n us ++ bs
  merged-front k n [] bs fits higher = refl
  merged-front k n (u ∷ us) bs fits higher =
      ap (put_in_order (n, (k, u))) (merged-front k (n + 1) us bs (omega (arith, fits)) higher)
      ∙ put_first (n, (k, u)) (front k (n + 1) us ++ bs) (above_front k n (n + 1) us bs (omega arith) (omega (arith, fits)) higher)

  -- another goes behind them
  put_behind : (k : Whom) (n : ℕ) (us : List Msdu) (a : Arrival) (bs : List Arrival) → Fits n us → first_number ≤ a.0 + given.in_front → put_in_order a (front k n us ++ bs) ≡ front k n us ++ put_in_order a bs
  put_behind k n [] a bs fits here = refl
  put_behind k n (u ∷ us) a bs fits here =
      ap (λ c. cond c (a ∷ (n, (k, u)) ∷ (front k (n + 1) us ++ bs)) ((n, (k, u)) ∷ put_in_order a (front k (n + 1) us ++ bs))) (le-ltb a.0 n (omega (arith, fits, here)))
      ∙ ap (λ es. (n, (k, u)) ∷ es) (put_behind k (n + 1) us a bs (omega (arith, fits)) here)

  merged-behind : (k : Whom) (n : ℕ) (us : List Msdu) (l : Whom) (queue : List Arrived) (bs : List Arrival) → Fits n us → IsNumbered given queue → merged l queue (front k n us ++ bs) ≡ front k n us ++ merged l queue bs
  merged-behind k n us l [] bs fits numbered = refl
  merged-behind k n us l (a ∷ queue) bs fits numbered =
      ap (put_in_order (arrival_for l a)) (merged-behind k n us l queue bs fits numbered.2)
      ∙ put_behind k n us (arrival_for l a) (merged l queue bs) fits numbered.3

  -- a new queue of such units
  pub arrivals-add_front : (whom : Whom) (n : ℕ) (us : List Msdu) (w : Queue) (queues : Queues) → Fits n us → AreNumbered given queues → w.items ≡ numbered_from n us → arrivals (queues ++ (whom, w) ∷ []) ≡ front whom n us ++ arrivals queues
  arrivals-add_front whom n us w [] fits numbered is = ap (λ queue. merged whom queue []) is ∙ merged-front whom n us [] fits tt
  arrivals-add_front whom n us w (e ∷ es) fits numbered is =
      ap (merged e.0 e.1.items) (arrivals-add_front whom n us w es fits numbered.1 is)
      ∙ merged-behind whom n us e.0 e.1.items (arrivals es) fits numbered.0

merged-append : (k : Whom) (xs ys : List Arrived) (others : List Arrival) → merged k (xs ++ ys) others ≡ merged k xs (merged k ys others)
merged-append k [] ys others = refl
merged-append k (a ∷ xs) ys others = ap (put_in_order (arrival_for k a)) (merged-append k xs ys others)

module _ (t : Whom → Bool) where
  without_firsts-merged_failing : (n : ℕ) (k : Whom) (queue : List Arrived) (others : List Arrival) → t k ≡ false → IsInOrder others → without_firsts (passes t) n (merged k queue others) ≡ merged k queue (without_firsts (passes t) n others)
  without_firsts-merged_failing zero k queue others fails order = refl
  without_firsts-merged_failing (suc n) k queue others fails order =
      ap (without_firsts (passes t) n) (without_first-merged_failing t k queue others fails order)
      ∙ without_firsts-merged_failing n k queue (without_first (passes t) others) fails (IsInOrder-without_first (passes t) others order)

  without_firsts-merged_only : (given : Numbers) (n : ℕ) (k : Whom) (queue : List Arrived) (others : List Arrival) → t k ≡ true → IsNumbered given queue → filter (passes t) others ≡ [] → without_firsts (passes t) n (merged k queue others) ≡ merged k (drop n queue) others
  without_firsts-merged_only given zero k queue others here numbered none = refl
  without_firsts-merged_only given (suc n) k [] others here numbered none =
      ap (without_firsts (passes t) n) (without_first-none (passes t) others none)
      ∙ without_firsts-merged_only given n k [] others here numbered none
      ∙ ap (λ queue. merged k queue others) (drop_none n)
  without_firsts-merged_only given (suc n) k (a ∷ queue) others here numbered none =
      ap (without_firsts (passes t) n) (without_first-merged_only t given k (a ∷ queue) others here numbered none)
      ∙ without_firsts-merged_only given n k queue others here numbered.2 none

  -- the first units of a queue go in front with others
  pub arrivals-front : (whom : Whom) → ((k : Whom) → t k ≡ true → k ≡ whom) → (given : Numbers) (n m : ℕ) (us : List Msdu) (queues : Queues) (q w : Queue) → Fits given n us → AreNumbered given queues → IsOnce t queues → lookup t queues ≡ Some q → w.items ≡ numbered_from n us ++ drop m q.items
      → arrivals (set_value t queues w) ≡ front whom n us ++ without_firsts (passes t) m (arrivals queues)
  arrivals-front whom exact given n m us [] q w fits numbered once found more = absurd (none-some q found)
  arrivals-front whom exact given n m us (e ∷ es) q w fits numbered once found more = elim (cases_Bool (t e.0)) [
    | inl here ↦
        let is : e.1 ≡ q = same_Some e.1 q (rw here at found) in
        let rest = without_firsts (passes t) m (merged e.0 e.1.items (arrivals es)) in
        let higher = AreHigher-without_firsts (passes t) given m (merged e.0 e.1.items (arrivals es)) (AreHigher-arrivals given (e ∷ es) numbered) in
        rw here (ap (λ queue. merged e.0 queue (arrivals es)) (more ∙ ap (λ (v : Queue). numbered_from n us ++ drop m v.items) (sym is))
        ∙ merged-append e.0 (numbered_from n us) (drop m e.1.items) (arrivals es)
        ∙ ap (merged e.0 (numbered_from n us)) (sym (without_firsts-merged_only given m e.0 e.1.items (arrivals es) here numbered.0 (filter-arrivals_none t es (once.0 here))))
        ∙ merged-front given e.0 n us rest fits higher
        ∙ ap (λ k. front k n us ++ rest) (exact e.0 here))
    | inr other ↦
        rw other (ap (merged e.0 e.1.items) (arrivals-front whom exact given n m us es q w fits numbered.1 once.1 (rw other at found) more)
        ∙ merged-behind given whom n us e.0 e.1.items (without_firsts (passes t) m (arrivals es)) fits numbered.0
        ∙ ap (λ bs. front whom n us ++ bs) (sym (without_firsts-merged_failing m e.0 e.1.items (arrivals es) other (IsInOrder-arrivals es))))
  ]
