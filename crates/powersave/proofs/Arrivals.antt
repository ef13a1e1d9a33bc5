-- Units in order of arrival: one more in its place, and what a test leaves of them.
use Rattle.std.proofs.Common.{◌≡◌, ℕ, ◌<◌, ◌≤◌, ◌⊎◌, inl, inr, Bool, true, false, cond, ltb, List, [], ◌∷◌, ◌++◌, filter, refl, sym, ap, ◌∙◌, arith}
use Rattle.std.specs.List.{AllByRecursion}
use Rattle.std.proofs.lemmas.Bool.{cond_both, ltb-true, ltb-false, lt-ltb, le-ltb}
use Rattle.std.proofs.lemmas.Bool.Decides.{nat_tests}
use Rattle.powersave.specs.Keep.{without_first}
use Rattle.powersave.specs.Queues.{Arrival, put_in_order, IsRising}

-- ---- bounds of the numbers

abbrev pub AllAbove : ℕ → List Arrival → Type 0
AllAbove n bs = AllByRecursion (λ b. n < b.0) bs

abbrev pub AllFrom : ℕ → List Arrival → Type 0
AllFrom n [] = Unit {0}
AllFrom n (b ∷ bs) = (n ≤ b.0) × AllFrom n bs

abbrev pub AllBelow : ℕ → List Arrival → Type 0
AllBelow n [] = Unit {0}
AllBelow n (b ∷ bs) = (b.0 < n) × AllBelow n bs

-- the numbers don't fall
abbrev pub IsInOrder : List Arrival → Type 0
IsInOrder [] = Unit {0}
IsInOrder (b ∷ bs) = AllFrom b.0 bs × IsInOrder bs

AllFrom-weaker : (m n : ℕ) (bs : List Arrival) → m ≤ n → AllFrom n bs → AllFrom m bs
AllFrom-weaker m n [] le from = tt
AllFrom-weaker m n (b ∷ bs) le from = let here = from.0 in (omega arith, AllFrom-weaker m n bs le from.1)

AllAbove-from : (m n : ℕ) (bs : List Arrival) → m < n → AllFrom n bs → AllAbove m bs
AllAbove-from m n [] lt from = tt
AllAbove-from m n (b ∷ bs) lt from = let here = from.0 in (omega arith, AllAbove-from m n bs lt from.1)

AllFrom-put : (n : ℕ) (a : Arrival) (bs : List Arrival) → n ≤ a.0 → AllFrom n bs → AllFrom n (put_in_order a bs)
AllFrom-put n a [] le from = (le, tt)
AllFrom-put n a (b ∷ bs) le from = cond_both (ltb a.0 b.0) _ _ (AllFrom n) (λ _. (le, from)) (λ _. (from.0, AllFrom-put n a bs le from.1))

pub AllBelow-put : (n : ℕ) (a : Arrival) (bs : List Arrival) → a.0 < n → AllBelow n bs → AllBelow n (put_in_order a bs)
AllBelow-put n a [] lt below = (lt, tt)
AllBelow-put n a (b ∷ bs) lt below = cond_both (ltb a.0 b.0) _ _ (AllBelow n) (λ _. (lt, below)) (λ _. (below.0, AllBelow-put n a bs lt below.1))

pub IsInOrder-put : (a : Arrival) (bs : List Arrival) → IsInOrder bs → IsInOrder (put_in_order a bs)
IsInOrder-put a [] order = (tt, tt)
IsInOrder-put a (b ∷ bs) order =
    cond_both (ltb a.0 b.0) _ _ IsInOrder
    (λ e. let lt = ltb-true a.0 b.0 e in ((omega arith, AllFrom-weaker a.0 b.0 bs (omega arith) order.0), order))
    (λ e. (AllFrom-put b.0 a bs (ltb-false a.0 b.0 e) order.0, IsInOrder-put a bs order.1))

-- ---- first and last

pub put_first : (a : Arrival) (bs : List Arrival) → AllAbove a.0 bs → put_in_order a bs ≡ a ∷ bs
put_first a [] above = refl
put_first a (b ∷ bs) above = ap (λ c. cond c (a ∷ b ∷ bs) (b ∷ put_in_order a bs)) (lt-ltb a.0 b.0 above.0)

pub put_last : (a : Arrival) (bs : List Arrival) → AllBelow a.0 bs → put_in_order a bs ≡ bs ++ a ∷ []
put_last a [] below = refl
put_last a (b ∷ bs) below =
    let here = below.0 in
    ap (λ c. cond c (a ∷ b ∷ bs) (b ∷ put_in_order a bs)) (le-ltb a.0 b.0 (omega arith))
    ∙ ap (λ es. b ∷ es) (put_last a bs below.1)

-- one that is not last goes before the last
pub put_before_last : (a last : Arrival) (bs : List Arrival) → a.0 < last.0 → put_in_order a (bs ++ last ∷ []) ≡ put_in_order a bs ++ last ∷ []
put_before_last a last [] lt = ap (λ c. cond c (a ∷ last ∷ []) (last ∷ a ∷ [])) (lt-ltb a.0 last.0 lt)
put_before_last a last (b ∷ bs) lt = grind (arith, put_before_last a last bs lt)

-- ---- numbers that differ

abbrev pub Differ : ℕ → ℕ → Type 0
Differ m n = (m < n) ⊎ (n < m)

-- what holds of all that are in order once one was put
put-each : (P : Arrival → Type 0) (a : Arrival) (bs : List Arrival) → AllByRecursion P (put_in_order a bs) → P a × AllByRecursion P bs
put-each P a [] each = (each.0, tt)
put-each P a (b ∷ bs) each =
    cond_both (ltb a.0 b.0) (a ∷ b ∷ bs) (b ∷ put_in_order a bs) (λ t. AllByRecursion P t → P a × AllByRecursion P (b ∷ bs))
    (λ _ all. (all.0, all.1))
    (λ _ all. let rest = put-each P a bs all.1 in (rest.0, (all.0, rest.1)))
    each

above-differ : (n : ℕ) (bs : List Arrival) → AllAbove n bs → AllByRecursion (λ b. Differ n b.0) bs
above-differ n [] above = tt
above-differ n (b ∷ bs) above = (inl above.0, above-differ n bs above.1)

-- where the numbers rise once one was put, that one's differs from the others, which rise
pub IsRising-before_put : (a : Arrival) (bs : List Arrival) → IsRising (put_in_order a bs) → AllByRecursion (λ b. Differ a.0 b.0) bs × IsRising bs
IsRising-before_put a [] rising = (tt, tt)
IsRising-before_put a (b ∷ bs) rising =
    cond_both (ltb a.0 b.0) (a ∷ b ∷ bs) (b ∷ put_in_order a bs) (λ t. IsRising t → AllByRecursion (λ x. Differ a.0 x.0) (b ∷ bs) × IsRising (b ∷ bs))
    (λ _ all. (above-differ a.0 (b ∷ bs) all.0, all.1))
    (λ _ all. let above = put-each (λ x. b.0 < x.0) a bs all.0 in let rest = IsRising-before_put a bs all.1 in ((inr above.0, rest.0), (above.1, rest.1)))
    rising

put-put_lower : (a b : Arrival) (xs : List Arrival) → a.0 < b.0 → put_in_order a (put_in_order b xs) ≡ put_in_order b (put_in_order a xs)
put-put_lower a b [] lt = grind (arith, nat_tests, lt)
put-put_lower a b (x ∷ xs) lt = grind (arith, nat_tests, lt, put-put_lower a b xs lt)

-- two whose numbers differ may be put in either order
pub put-put : (a b : Arrival) (xs : List Arrival) → Differ a.0 b.0 → put_in_order a (put_in_order b xs) ≡ put_in_order b (put_in_order a xs)
put-put a b xs (inl lt) = put-put_lower a b xs lt
put-put a b xs (inr gt) = sym (put-put_lower b a xs gt)

pub differ_before_put : (n : ℕ) (a : Arrival) (bs : List Arrival) → AllByRecursion (λ b. Differ n b.0) (put_in_order a bs) → Differ n a.0 × AllByRecursion (λ b. Differ n b.0) bs
differ_before_put n a bs each = put-each (λ b. Differ n b.0) a bs each

-- one more that came after all
pub IsRising-last : (last : Arrival) (bs : List Arrival) → AllBelow last.0 bs → IsRising bs → IsRising (bs ++ last ∷ [])
IsRising-last last [] below rising = (tt, tt)
IsRising-last last (b ∷ bs) below rising = (above bs rising.0, IsRising-last last bs below.1 rising.1)
  where
    above : (cs : List Arrival) → AllAbove b.0 cs → AllAbove b.0 (cs ++ last ∷ [])
    above [] all = (below.0, tt)
    above (c ∷ cs) all = (all.0, above cs all.1)

-- ---- what a test leaves

module _ (p : Arrival → Bool) where
  AllAbove-filter : (n : ℕ) (bs : List Arrival) → AllAbove n bs → AllAbove n (filter p bs)
  AllAbove-filter n [] above = tt
  AllAbove-filter n (b ∷ bs) above = let rest = AllAbove-filter n bs above.1 in cond_both (p b) _ _ (AllAbove n) (λ _. (above.0, rest)) (λ _. rest)

  AllAbove-without_first : (n : ℕ) (bs : List Arrival) → AllAbove n bs → AllAbove n (without_first p bs)
  AllAbove-without_first n [] above = tt
  AllAbove-without_first n (b ∷ bs) above = cond_both (p b) _ _ (AllAbove n) (λ _. above.1) (λ _. (above.0, AllAbove-without_first n bs above.1))

  AllFrom-without_first : (n : ℕ) (bs : List Arrival) → AllFrom n bs → AllFrom n (without_first p bs)
  AllFrom-without_first n [] from = tt
  AllFrom-without_first n (b ∷ bs) from = cond_both (p b) _ _ (AllFrom n) (λ _. from.1) (λ _. (from.0, AllFrom-without_first n bs from.1))

  pub IsInOrder-without_first : (bs : List Arrival) → IsInOrder bs → IsInOrder (without_first p bs)
  IsInOrder-without_first [] order = tt
  IsInOrder-without_first (b ∷ bs) order = cond_both (p b) _ _ IsInOrder (λ _. order.1) (λ _. (AllFrom-without_first b.0 bs order.0, IsInOrder-without_first bs order.1))

  pub IsRising-filter : (bs : List Arrival) → IsRising bs → IsRising (filter p bs)
  IsRising-filter [] rising = tt
  IsRising-filter (b ∷ bs) rising = let rest = IsRising-filter bs rising.1 in cond_both (p b) _ _ IsRising (λ _. (AllAbove-filter b.0 bs rising.0, rest)) (λ _. rest)

  pub IsRising-without_first : (bs : List Arrival) → IsRising bs → IsRising (without_first p bs)
  IsRising-without_first [] rising = tt
  IsRising-without_first (b ∷ bs) rising = cond_both (p b) _ _ IsRising (λ _. rising.1) (λ _. (AllAbove-without_first b.0 bs rising.0, IsRising-without_first bs rising.1))

  -- one that fails
  pub filter-put_failing : (a : Arrival) (bs : List Arrival) → p a ≡ false → filter p (put_in_order a bs) ≡ filter p bs
  filter-put_failing a [] fails = ap (λ d. cond d (a ∷ []) []) fails
  filter-put_failing a (b ∷ bs) fails = grind (arith, fails, filter-put_failing a bs fails)

  -- one that passes, where none that passes comes before it
  pub filter-put_earliest : (a : Arrival) (bs : List Arrival) → p a ≡ true → AllAbove a.0 (filter p bs) → filter p (put_in_order a bs) ≡ a ∷ filter p bs
  filter-put_earliest a [] passes above = ap (λ d. cond d (a ∷ []) []) passes
  filter-put_earliest a (b ∷ bs) passes above = grind (arith, nat_tests, passes, above, filter-put_earliest a bs passes)

  -- the first that passes is this one
  pub without_first-put_earliest : (a : Arrival) (bs : List Arrival) → p a ≡ true → AllAbove a.0 (filter p bs) → without_first p (put_in_order a bs) ≡ bs
  without_first-put_earliest a [] passes above = ap (λ d. cond d [] (a ∷ [])) passes
  without_first-put_earliest a (b ∷ bs) passes above = grind (arith, nat_tests, passes, above, without_first-put_earliest a bs passes)

  -- what is put among those in order stays in its place when others are left out
  pub filter-put : (a : Arrival) (bs : List Arrival) → p a ≡ true → IsInOrder bs → filter p (put_in_order a bs) ≡ put_in_order a (filter p bs)
  filter-put a [] passes order = ap (λ d. cond d (a ∷ []) []) passes
  filter-put a (b ∷ bs) passes order =
      let first : a.0 < b.0 → put_in_order a (filter p (b ∷ bs)) ≡ a ∷ filter p (b ∷ bs) = λ lt. put_first a (filter p (b ∷ bs)) (AllAbove-filter a.0 (b ∷ bs) (lt, AllAbove-from a.0 b.0 bs lt order.0)) in
      grind (arith, nat_tests, passes, first, filter-put a bs passes order.1)

  pub without_first-put : (a : Arrival) (bs : List Arrival) → p a ≡ false → IsInOrder bs → without_first p (put_in_order a bs) ≡ put_in_order a (without_first p bs)
  without_first-put a [] fails order = ap (λ d. cond d [] (a ∷ [])) fails
  without_first-put a (b ∷ bs) fails order =
      let first : a.0 < b.0 → put_in_order a (without_first p (b ∷ bs)) ≡ a ∷ without_first p (b ∷ bs) = λ lt. put_first a (without_first p (b ∷ bs)) (AllAbove-without_first a.0 (b ∷ bs) (lt, AllAbove-from a.0 b.0 bs lt order.0)) in
      grind (arith, nat_tests, fails, first, without_first-put a bs fails order.1)

  -- where none passes
  pub without_first-none : (bs : List Arrival) → filter p bs ≡ [] → without_first p bs ≡ bs
  without_first-none [] none = refl
  without_first-none (b ∷ bs) none = grind (arith, none, without_first-none bs)
