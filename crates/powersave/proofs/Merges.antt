-- A queue among the units of others, and all queues: what is left for one, what is left without it, what comes last,
-- and that the last queue may as well be the first.
use Rattle.std.proofs.Common.{◌≡◌, ℕ, ◌+◌, ◌<◌, Bool, true, false, not, List, [], ◌∷◌, ◌++◌, map, filter, drop, Some, refl, sym, ap, ◌∙◌, subst, arith, inl, inr}
use Rattle.std.specs.List.{AllByRecursion}
use Rattle.std.specs.Map.{lookup, set_value, remove_entry}
use Rattle.std.specs.Option.{option_map, unwrap_or}
use Rattle.std.proofs.lemmas.Bool.{cases_Bool}
use Rattle.std.proofs.lemmas.Map.{NonePasses}
use Rattle.std.proofs.lemmas.Option.{none-some, same_Some}
use Rattle.indexmap.specs.IndexMap.{swap_remove_entry}
use Rattle.powersave.specs.declared.unit.Whom.{Whom}
use Rattle.powersave.specs.declared.unit.Unit.{Unit as Msdu}
use Rattle.powersave.specs.declared.queues.Arrived.{Arrived}
use Rattle.powersave.specs.Keep.{without_first}
use Rattle.powersave.specs.Queues.{Queue, Queues, Arrival, arrival_for, put_in_order, merged, arrivals, first_number, Numbers, IsNumbered, AreNumbered, IsRising}
use Rattle.powersave.proofs.Swaps.{swap_removed}
use Rattle.powersave.proofs.Arrivals.{AllAbove, AllBelow, IsInOrder, Differ, put-put, differ_before_put, IsRising-before_put, IsRising-filter, AllBelow-put, IsInOrder-put, put_last, put_before_last, filter-put_failing, filter-put_earliest, without_first-put_earliest, filter-put, without_first-put, without_first-none}

-- whether a unit is for one that passes a test
abbrev pub passes : (Whom → Bool) → Arrival → Bool
passes t a = t a.1.0

-- the unit itself
abbrev pub unit_of : Arrival → Msdu
unit_of a = a.1.1

-- ---- one queue

AllAbove-queue : (n : ℕ) (k : Whom) (queue : List Arrived) → AllByRecursion (λ b. n < b.number) queue → AllAbove n (map (arrival_for k) queue)
AllAbove-queue n k [] above = tt
AllAbove-queue n k (a ∷ queue) above = (above.0, AllAbove-queue n k queue above.1)

units-queue : (k : Whom) (queue : List Arrived) → map unit_of (map (arrival_for k) queue) ≡ map (λ a. a.unit) queue
units-queue k [] = refl
units-queue k (a ∷ queue) = ap (λ us. a.unit ∷ us) (units-queue k queue)

AllBelow-merged : (n : Numbers) (k : Whom) (queue : List Arrived) (others : List Arrival) → IsNumbered n queue → AllBelow (first_number + n.last) others → AllBelow (first_number + n.last) (merged k queue others)
AllBelow-merged n k [] others numbered below = below
AllBelow-merged n k (a ∷ queue) others numbered below = AllBelow-put (first_number + n.last) (arrival_for k a) (merged k queue others) numbered.0 (AllBelow-merged n k queue others numbered.2 below)

IsInOrder-merged : (k : Whom) (queue : List Arrived) (others : List Arrival) → IsInOrder others → IsInOrder (merged k queue others)
IsInOrder-merged k [] others order = order
IsInOrder-merged k (a ∷ queue) others order = IsInOrder-put (arrival_for k a) (merged k queue others) (IsInOrder-merged k queue others order)

-- one more unit, which came after all
merged-push : (n : Numbers) (k : Whom) (queue : List Arrived) (last : Arrived) (others : List Arrival) → last.number ≡ first_number + n.last → IsNumbered n queue → AllBelow last.number others → merged k (queue ++ last ∷ []) others ≡ merged k queue others ++ arrival_for k last ∷ []
merged-push n k [] last others is numbered below = put_last (arrival_for k last) others below
merged-push n k (a ∷ queue) last others is numbered below =
    let here = numbered.0 in
    ap (put_in_order (arrival_for k a)) (merged-push n k queue last others is numbered.2 below)
    ∙ put_before_last (arrival_for k a) (arrival_for k last) (merged k queue others) (omega (arith, is, here))

-- the same, where it is for another
merged-before_last : (n : Numbers) (k : Whom) (queue : List Arrived) (last : Arrival) (others : List Arrival) → last.0 ≡ first_number + n.last → IsNumbered n queue → merged k queue (others ++ last ∷ []) ≡ merged k queue others ++ last ∷ []
merged-before_last n k [] last others is numbered = refl
merged-before_last n k (a ∷ queue) last others is numbered =
    let here = numbered.0 in
    ap (put_in_order (arrival_for k a)) (merged-before_last n k queue last others is numbered.2)
    ∙ put_before_last (arrival_for k a) last (merged k queue others) (omega (arith, is, here))

-- ---- two queues

IsRising-before_merged : (k : Whom) (queue : List Arrived) (others : List Arrival) → IsRising (merged k queue others) → IsRising others
IsRising-before_merged k [] others rising = rising
IsRising-before_merged k (a ∷ queue) others rising =
    IsRising-before_merged k queue others (IsRising-before_put (arrival_for k a) (merged k queue others) rising).1

put-merged : (a : Arrival) (k : Whom) (queue : List Arrived) (others : List Arrival) → AllByRecursion (λ b. Differ a.0 b.0) (merged k queue others) → put_in_order a (merged k queue others) ≡ merged k queue (put_in_order a others)
put-merged a k [] others apart = refl
put-merged a k (b ∷ queue) others apart =
    let each = differ_before_put a.0 (arrival_for k b) (merged k queue others) apart in
    put-put a (arrival_for k b) (merged k queue others) each.0
    ∙ ap (put_in_order (arrival_for k b)) (put-merged a k queue others each.1)

-- those of two queues may come in either order
merged-merged : (k l : Whom) (ks ls : List Arrived) (others : List Arrival) → IsRising (merged k ks (merged l ls others)) → merged k ks (merged l ls others) ≡ merged l ls (merged k ks others)
merged-merged k l [] ls others rising = refl
merged-merged k l (a ∷ ks) ls others rising =
    let before = IsRising-before_put (arrival_for k a) (merged k ks (merged l ls others)) rising in
    let swapped = merged-merged k l ks ls others before.1 in
    ap (put_in_order (arrival_for k a)) swapped
    ∙ put-merged (arrival_for k a) l ls (merged k ks others) (subst (λ bs. AllByRecursion (λ b. Differ a.number b.0) bs) swapped before.0)

module _ (t : Whom → Bool) where
  -- the queue of one that fails
  filter-merged_failing : (k : Whom) (queue : List Arrived) (others : List Arrival) → t k ≡ false → filter (passes t) (merged k queue others) ≡ filter (passes t) others
  filter-merged_failing k [] others fails = refl
  filter-merged_failing k (a ∷ queue) others fails =
      filter-put_failing (passes t) (arrival_for k a) (merged k queue others) fails ∙ filter-merged_failing k queue others fails

  pub without_first-merged_failing : (k : Whom) (queue : List Arrived) (others : List Arrival) → t k ≡ false → IsInOrder others → without_first (passes t) (merged k queue others) ≡ merged k queue (without_first (passes t) others)
  without_first-merged_failing k [] others fails order = refl
  without_first-merged_failing k (a ∷ queue) others fails order =
      without_first-put (passes t) (arrival_for k a) (merged k queue others) fails (IsInOrder-merged k queue others order)
      ∙ ap (put_in_order (arrival_for k a)) (without_first-merged_failing k queue others fails order)

  -- the queue of one that passes
  filter-merged_passing : (k : Whom) (queue : List Arrived) (others : List Arrival) → t k ≡ true → IsInOrder others → filter (passes t) (merged k queue others) ≡ merged k queue (filter (passes t) others)
  filter-merged_passing k [] others here order = refl
  filter-merged_passing k (a ∷ queue) others here order =
      filter-put (passes t) (arrival_for k a) (merged k queue others) here (IsInOrder-merged k queue others order)
      ∙ ap (put_in_order (arrival_for k a)) (filter-merged_passing k queue others here order)

  -- the queue of the only one that passes
  filter-merged_only : (n : Numbers) (k : Whom) (queue : List Arrived) (others : List Arrival) → t k ≡ true → IsNumbered n queue → filter (passes t) others ≡ [] → filter (passes t) (merged k queue others) ≡ map (arrival_for k) queue
  filter-merged_only n k [] others here numbered none = none
  filter-merged_only n k (a ∷ queue) others here numbered none =
      let later = filter-merged_only n k queue others here numbered.2 none in
      filter-put_earliest (passes t) (arrival_for k a) (merged k queue others) here (subst (AllAbove a.number) (sym later) (AllAbove-queue a.number k queue numbered.1))
      ∙ ap (λ es. arrival_for k a ∷ es) later

  pub without_first-merged_only : (n : Numbers) (k : Whom) (queue : List Arrived) (others : List Arrival) → t k ≡ true → IsNumbered n queue → filter (passes t) others ≡ [] → without_first (passes t) (merged k queue others) ≡ merged k (drop 1 queue) others
  without_first-merged_only n k [] others here numbered none = without_first-none (passes t) others none
  without_first-merged_only n k (a ∷ queue) others here numbered none =
      let later = filter-merged_only n k queue others here numbered.2 none in
      without_first-put_earliest (passes t) (arrival_for k a) (merged k queue others) here (subst (AllAbove a.number) (sym later) (AllAbove-queue a.number k queue numbered.1))

-- ---- all queues

pub AllBelow-arrivals : (n : Numbers) (queues : Queues) → AreNumbered n queues → AllBelow (first_number + n.last) (arrivals queues)
AllBelow-arrivals n [] numbered = tt
AllBelow-arrivals n (q ∷ queues) numbered = AllBelow-merged n q.0 q.1.items (arrivals queues) numbered.0 (AllBelow-arrivals n queues numbered.1)

pub IsInOrder-arrivals : (queues : Queues) → IsInOrder (arrivals queues)
IsInOrder-arrivals [] = tt
IsInOrder-arrivals (q ∷ queues) = IsInOrder-merged q.0 q.1.items (arrivals queues) (IsInOrder-arrivals queues)

-- an empty queue has no part in the list
pub arrivals-add_empty : (whom : Whom) (w : Queue) (queues : Queues) → w.items ≡ [] → arrivals (queues ++ (whom, w) ∷ []) ≡ arrivals queues
arrivals-add_empty whom w [] empty = ap (λ queue. merged whom queue []) empty
arrivals-add_empty whom w (e ∷ es) empty = ap (merged e.0 e.1.items) (arrivals-add_empty whom w es empty)

-- a queue of one unit, which came after all
pub arrivals-add_one : (n : Numbers) (whom : Whom) (last : Arrived) (w : Queue) (queues : Queues) → last.number ≡ first_number + n.last → w.items ≡ last ∷ [] → AreNumbered n queues → arrivals (queues ++ (whom, w) ∷ []) ≡ arrivals queues ++ arrival_for whom last ∷ []
arrivals-add_one n whom last w [] is one numbered = ap (λ queue. merged whom queue []) one
arrivals-add_one n whom last w (e ∷ es) is one numbered =
    ap (merged e.0 e.1.items) (arrivals-add_one n whom last w es is one numbered.1)
    ∙ merged-before_last n e.0 e.1.items (arrival_for whom last) (arrivals es) is numbered.0

-- the last queue may as well be the first
arrivals-last : (l : Whom × Queue) (queues : Queues) → IsRising (arrivals (queues ++ l ∷ [])) → arrivals (l ∷ queues) ≡ arrivals (queues ++ l ∷ [])
arrivals-last l [] rising = refl
arrivals-last l (e ∷ es) rising =
    let rest = arrivals-last l es (IsRising-before_merged e.0 e.1.items (arrivals (es ++ l ∷ [])) rising) in
    sym (merged-merged e.0 l.0 e.1.items l.1.items (arrivals es) (subst (λ bs. IsRising (merged e.0 e.1.items bs)) (sym rest) rising))
    ∙ ap (merged e.0 e.1.items) rest

module _ (t : Whom → Bool) where
  -- where one passes, no later one does
  abbrev pub IsOnce : Queues → Type 0
  IsOnce [] = Unit {0}
  IsOnce (q ∷ queues) = (t q.0 ≡ true → NonePasses t queues) × IsOnce queues

  pub filter-arrivals_none : (queues : Queues) → NonePasses t queues → filter (passes t) (arrivals queues) ≡ []
  filter-arrivals_none [] none = refl
  filter-arrivals_none (q ∷ queues) none =
      filter-merged_failing t q.0 q.1.items (arrivals queues) none.0 ∙ filter-arrivals_none queues none.1

  abbrev pub others : Whom → Bool
  others k = not (t k)

  filter-arrivals_others : (queues : Queues) → NonePasses t queues → filter (passes others) (arrivals queues) ≡ arrivals queues
  filter-arrivals_others [] none = refl
  filter-arrivals_others (q ∷ queues) none =
      filter-merged_passing others q.0 q.1.items (arrivals queues) (ap not none.0) (IsInOrder-arrivals queues)
      ∙ ap (merged q.0 q.1.items) (filter-arrivals_others queues none.1)

  -- the units for one that passes are those of its queue, in its order
  pub units-arrivals : (n : Numbers) (queues : Queues) → AreNumbered n queues → IsOnce queues → map unit_of (filter (passes t) (arrivals queues)) ≡ map (λ a. a.unit) (unwrap_or (option_map (λ q. q.items) (lookup t queues)) [])
  units-arrivals n [] numbered once = refl
  units-arrivals n (e ∷ es) numbered once = elim (cases_Bool (t e.0)) [
    | inl here ↦ rw here (ap (map unit_of) (filter-merged_only t n e.0 e.1.items (arrivals es) here numbered.0 (filter-arrivals_none es (once.0 here))) ∙ units-queue e.0 e.1.items)
    | inr other ↦ rw other (ap (map unit_of) (filter-merged_failing t e.0 e.1.items (arrivals es) other) ∙ units-arrivals n es numbered.1 once.1)
  ]

  -- a queue that has lost its first unit
  pub arrivals-pop : (n : Numbers) (queues : Queues) (q w : Queue) → AreNumbered n queues → IsOnce queues → lookup t queues ≡ Some q → w.items ≡ drop 1 q.items → arrivals (set_value t queues w) ≡ without_first (passes t) (arrivals queues)
  arrivals-pop n [] q w numbered once found left = refl
  arrivals-pop n (e ∷ es) q w numbered once found left = elim (cases_Bool (t e.0)) [
    | inl here ↦
        let is : e.1 ≡ q = same_Some e.1 q (rw here at found) in
        rw here (ap (λ queue. merged e.0 queue (arrivals es)) (left ∙ ap (λ (v : Queue). drop 1 v.items) (sym is))
        ∙ sym (without_first-merged_only t n e.0 e.1.items (arrivals es) here numbered.0 (filter-arrivals_none es (once.0 here))))
    | inr other ↦
        rw other (ap (merged e.0 e.1.items) (arrivals-pop n es q w numbered.1 once.1 (rw other at found) left)
        ∙ sym (without_first-merged_failing t e.0 e.1.items (arrivals es) other (IsInOrder-arrivals es)))
  ]

  -- a queue that is removed
  pub arrivals-remove : (queues : Queues) → IsOnce queues → arrivals (remove_entry t queues) ≡ filter (passes others) (arrivals queues)
  arrivals-remove [] once = refl
  arrivals-remove (e ∷ es) once = elim (cases_Bool (t e.0)) [
    | inl here ↦ rw here (sym (filter-merged_failing others e.0 e.1.items (arrivals es) (ap not here) ∙ filter-arrivals_others es (once.0 here)))
    | inr other ↦ rw other (ap (merged e.0 e.1.items) (arrivals-remove es once.1) ∙ sym (filter-merged_passing others e.0 e.1.items (arrivals es) (ap not other) (IsInOrder-arrivals es)))
  ]

  -- the same, where the last queue takes its place
  pub arrivals-swap_remove : (queues : Queues) → IsOnce queues → IsRising (arrivals queues) → arrivals (swap_remove_entry t queues) ≡ filter (passes others) (arrivals queues)
  arrivals-swap_remove queues once rising =
      let gone = arrivals-remove queues once in
      swap_removed t (λ es fs. IsRising (arrivals fs) → arrivals es ≡ arrivals fs)
      (λ es risen. refl)
      arrivals-last
      (λ e es fs later risen. ap (merged e.0 e.1.items) (later (IsRising-before_merged e.0 e.1.items (arrivals fs) risen)))
      queues
      (subst IsRising (sym gone) (IsRising-filter (passes others) (arrivals queues) rising))
      ∙ gone

  -- a queue whose units stay
  pub arrivals-set_same : (queues : Queues) (q w : Queue) → lookup t queues ≡ Some q → w.items ≡ q.items → arrivals (set_value t queues w) ≡ arrivals queues
  arrivals-set_same [] q w found same = refl
  arrivals-set_same (e ∷ es) q w found same = grind (arith, found, same, arrivals-set_same es q w)

  -- a queue with one unit more, which came after all
  pub arrivals-push : (n : Numbers) (whom : Whom) → ((k : Whom) → t k ≡ true → k ≡ whom) → (last : Arrived) (queues : Queues) (q w : Queue) → last.number ≡ first_number + n.last → AreNumbered n queues → lookup t queues ≡ Some q → w.items ≡ q.items ++ last ∷ [] → arrivals (set_value t queues w) ≡ arrivals queues ++ arrival_for whom last ∷ []
  arrivals-push n whom exact last [] q w is_next numbered found more = absurd (none-some q found)
  arrivals-push n whom exact last (e ∷ es) q w is_next numbered found more = elim (cases_Bool (t e.0)) [
    | inl here ↦
        let is : e.1 ≡ q = same_Some e.1 q (rw here at found) in
        rw here (ap (λ queue. merged e.0 queue (arrivals es)) (more ∙ ap (λ (v : Queue). v.items ++ last ∷ []) (sym is))
        ∙ merged-push n e.0 e.1.items last (arrivals es) is_next numbered.0 (subst (λ top. AllBelow top (arrivals es)) (sym is_next) (AllBelow-arrivals n es numbered.1))
        ∙ ap (λ k. merged e.0 e.1.items (arrivals es) ++ arrival_for k last ∷ []) (exact e.0 here))
    | inr other ↦
        rw other (ap (merged e.0 e.1.items) (arrivals-push n whom exact last es q w is_next numbered.1 (rw other at found) more)
        ∙ merged-before_last n e.0 e.1.items (arrival_for whom last) (arrivals es) is_next numbered.0)
  ]
