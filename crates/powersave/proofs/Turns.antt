-- A queue whose first units go to its end with new numbers, and back to its front with one more.
use Rattle.std.proofs.Common.{◌≡◌, ℕ, zero, suc, ◌+◌, ◌-◌, ◌<◌, ◌≤◌, min, List, [], ◌∷◌, ◌++◌, length, take, drop, refl, sym, ap, ◌∙◌, arith, inl, inr}
use Rattle.std.proofs.lemmas.Bool.{cases_lt}
use Rattle.std.proofs.lemmas.List.{length-map, length-take, map-append, append_assoc, take_all}
use Rattle.powersave.specs.declared.unit.Unit.{Unit as Msdu}
use Rattle.powersave.specs.declared.queues.Arrived.{Arrived}
use Rattle.powersave.specs.Queues.{numbered_from, units_of, queue_with}

module _ {X : Type 0} where
  -- one more is taken, and one less is left
  split_at : (xs : List X) (p : ℕ) → p < length xs → (x : X) × (drop p xs ≡ x ∷ drop (suc p) xs) × (take (suc p) xs ≡ take p xs ++ x ∷ [])
  split_at [] p lt = absurd (omega (arith, lt))
  split_at (x ∷ xs) zero lt = (x, refl, refl)
  split_at (x ∷ xs) (suc p) lt = let rest = split_at xs p (omega (arith, lt)) in (rest.0, rest.1, ap (λ ys. x ∷ ys) rest.2)

  drop_behind : (xs ys : List X) → drop (length xs) (xs ++ ys) ≡ ys
  drop_behind [] ys = refl
  drop_behind (x ∷ xs) ys = drop_behind xs ys

  take_before : (xs ys : List X) → take (length xs) (xs ++ ys) ≡ xs
  take_before [] ys = refl
  take_before (x ∷ xs) ys = ap (λ zs. x ∷ zs) (take_before xs ys)

  length_left : (n : ℕ) (xs : List X) → length (drop n xs) ≡ length xs - n
  length_left zero xs = omega arith
  length_left (suc n) [] = omega arith
  length_left (suc n) (x ∷ xs) = length_left n xs ∙ omega arith

  drop_past : (n : ℕ) (xs : List X) → length xs ≤ n → drop n xs ≡ []
  drop_past zero [] le = refl
  drop_past zero (x ∷ xs) le = absurd (omega (arith, le))
  drop_past (suc n) [] le = refl
  drop_past (suc n) (x ∷ xs) le = drop_past n xs (omega (arith, le))

abbrev pub numbered : ℕ → Msdu → Arrived
numbered n u = record { number = n; unit = u }

numbered_push : (n : ℕ) (us : List Msdu) (u : Msdu) → numbered_from n (us ++ u ∷ []) ≡ numbered_from n us ++ numbered (n + length us) u ∷ []
numbered_push n [] u = ap (λ k. numbered k u ∷ []) (omega arith)
numbered_push n (v ∷ us) u =
    let on : n + 1 + length us ≡ n + length (v ∷ us) = omega arith in
    ap (λ rest. numbered n v ∷ rest) (numbered_push (n + 1) us u ∙ ap (λ k. numbered_from (n + 1) us ++ numbered k u ∷ []) on)

module _ (first : ℕ) (xs : List Arrived) where
  -- as many of the first stand last
  abbrev pub moved : ℕ → List Arrived
  moved p = drop p xs ++ numbered_from first (units_of (take p xs))

  long : (p : ℕ) → p ≤ length xs → length (units_of (take p xs)) ≡ p
  long p le =
      let some = length-map (take p xs) (λ (a : Arrived). a.unit) in
      let few = length-take p xs in
      omega (arith, le, some, few)

  one_anew : (p : ℕ) → p < length xs → drop 1 (moved p) ++ numbered_from (first + p) (units_of (take 1 (moved p))) ≡ moved (suc p)
  one_anew p lt =
      let split = split_at xs p lt in
      let left = drop (suc p) xs in
      let last = numbered_from first (units_of (take p xs)) in
      let on : first + length (units_of (take p xs)) ≡ first + p = ap (λ n. first + n) (long p (omega (arith, lt))) in
      ap (λ ys. drop 1 (ys ++ last) ++ numbered_from (first + p) (units_of (take 1 (ys ++ last)))) split.1
      ∙ append_assoc left last (numbered (first + p) split.0.unit ∷ [])
      ∙ ap (λ ys. left ++ ys)
      (ap (λ n. last ++ numbered n split.0.unit ∷ []) (sym on)
      ∙ sym (numbered_push first (units_of (take p xs)) split.0.unit)
      ∙ ap (numbered_from first) (sym (ap units_of split.2 ∙ map-append (λ (a : Arrived). a.unit) (take p xs) (split.0 ∷ []))))

  pub moved_one : (p : ℕ) → p < length xs → drop 1 (moved p) ++ numbered_from (first + p) (units_of (take 1 (moved p))) ≡ moved (p + 1)
  moved_one p lt = let on : suc p ≡ p + 1 = omega arith in one_anew p lt ∙ ap moved on

  -- those that moved, and one more behind them, go to the front
  pub turned : (n k : ℕ) (u : Msdu) (ys : List Arrived) → n ≤ length xs → k ≡ length xs - n → ys ≡ moved n ++ numbered (first + n) u ∷ [] → drop k ys ++ take k ys ≡ queue_with first n u xs
  turned n k u ys le is at =
      let a = drop n xs in
      let us = units_of (take n xs) in
      let b = numbered_from first us ++ numbered (first + n) u ∷ [] in
      let on : first + n ≡ first + length us = ap (λ m. first + m) (sym (long n le)) in
      ap (λ zs. drop k zs ++ take k zs) (at ∙ append_assoc a (numbered_from first us) (numbered (first + n) u ∷ []))
      ∙ ap (λ i. drop i (a ++ b) ++ take i (a ++ b)) (is ∙ sym (length_left n xs))
      ∙ ap (λ zs. zs ++ take (length a) (a ++ b)) (drop_behind a b)
      ∙ ap (λ zs. b ++ zs) (take_before a b)
      ∙ ap (λ zs. zs ++ a) (ap (λ m. numbered_from first us ++ numbered m u ∷ []) on ∙ sym (numbered_push first us u))

  -- more than there are is all there are
  pub all_at_most : (before : ℕ) (u : Msdu) → queue_with first (min before (length xs)) u xs ≡ queue_with first before u xs
  all_at_most before u = elim (cases_lt before (length xs)) [
    | inl fewer ↦ let is : min before (length xs) ≡ before = omega (arith, fewer) in ap (λ n. queue_with first n u xs) is
    | inr more ↦
        let is : min before (length xs) ≡ length xs = omega (arith, more) in
        ap (λ n. queue_with first n u xs) is
        ∙ ap (λ ys. numbered_from first (units_of ys ++ u ∷ []) ++ drop (length xs) xs) (take_all (length xs) xs (omega arith) ∙ sym (take_all before xs more))
        ∙ ap (λ ys. numbered_from first (units_of (take before xs) ++ u ∷ []) ++ ys) (drop_past (length xs) xs (omega arith) ∙ sym (drop_past before xs more))
  ]
