-- What `swap_remove` leaves of entries: those that a removal in order leaves, where the last may have moved before
-- others.
use Rattle.std.proofs.Common.{◌≡◌, ℕ, suc, ◌+◌, ◌-◌, ◌<◌, ◌≤◌, Bool, true, false, not, cond, nat_lt, List, [], ◌∷◌, ◌++◌, length, take, get_or, slice_set, Some, None, refl, sym, ap, ◌∙◌, subst, arith}
use Rattle.std.specs.List.{position_or_len, swap_remove}
use Rattle.std.specs.Map.{keys_of, remove_entry}
use Rattle.std.specs.Option.{option_map_or}
use Rattle.std.proofs.lemmas.Bool.{ltb-true, ltb-false}
use Rattle.std.proofs.lemmas.List.{length-map, take_all, take_more}
use Rattle.indexmap.specs.IndexMap.{swap_remove_entry}

module _ {X : Type 0} where
  -- the first of some
  first_goes : (x y : X) (xs : List X) (d : X) → swap_remove (x ∷ y ∷ xs) 0 d ≡ get_or (y ∷ xs) (length xs) d ∷ take (length xs) (y ∷ xs)
  first_goes x y xs d =
      let last : length (x ∷ y ∷ xs) - 1 ≡ suc (length xs) = omega arith in
      ap (λ k. take k (slice_set (x ∷ y ∷ xs) 0 (get_or (x ∷ y ∷ xs) k d))) last

  -- a later one
  later_goes : (x y : X) (xs : List X) (n : ℕ) (d : X) → swap_remove (x ∷ y ∷ xs) (1 + n) d ≡ x ∷ swap_remove (y ∷ xs) n d
  later_goes x y xs n d =
      let last : length (x ∷ y ∷ xs) - 1 ≡ suc (length xs) = omega arith in
      let place : 1 + n ≡ suc n = omega arith in
      let rest : length xs ≡ length (y ∷ xs) - 1 = omega arith in
      ap (λ k. take k (slice_set (x ∷ y ∷ xs) (1 + n) (get_or (x ∷ y ∷ xs) k d))) last
      ∙ ap (λ i. take (suc (length xs)) (slice_set (x ∷ y ∷ xs) i (get_or (x ∷ y ∷ xs) (suc (length xs)) d))) place
      ∙ ap (λ k. x ∷ take k (slice_set (y ∷ xs) n (get_or (y ∷ xs) k d))) rest

  -- some are the last and those before it
  split_last : (y : X) (xs : List X) (d : X) → y ∷ xs ≡ take (length xs) (y ∷ xs) ++ get_or (y ∷ xs) (length xs) d ∷ []
  split_last y xs d =
      sym (take_all (length xs + 1) (y ∷ xs) (omega arith)) ∙ take_more (y ∷ xs) (length xs) d (omega arith)

-- where R holds of equal lists, of one whose last has moved to its front, and after one more entry before both
module _ {K V : Type 0} (t : K → Bool) (R : List (K × V) → List (K × V) → Type 0)
    (same : (es : List (K × V)) → R es es)
    (moved : (last : K × V) (es : List (K × V)) → R (last ∷ es) (es ++ last ∷ []))
    (more : (e : K × V) (es fs : List (K × V)) → R es fs → R (e ∷ es) (e ∷ fs)) where
  first_taken : (e : K × V) (es : List (K × V)) (d : K × V) → R (swap_remove (e ∷ es) 0 d) es
  first_taken e [] d = same []
  first_taken e (f ∷ fs) d =
      subst (λ gs. R gs (f ∷ fs)) (sym (first_goes e f fs d))
      (subst (R (get_or (f ∷ fs) (length fs) d ∷ take (length fs) (f ∷ fs))) (sym (split_last f fs d))
      (moved (get_or (f ∷ fs) (length fs) d) (take (length fs) (f ∷ fs))))

  later_taken : (e : K × V) (es : List (K × V)) (n : ℕ) (d : K × V) (fs : List (K × V)) → n < length es → R (swap_remove es n d) fs → R (swap_remove (e ∷ es) (1 + n) d) (e ∷ fs)
  later_taken e [] n d fs within rest = absurd (omega (arith, within))
  later_taken e (g ∷ gs) n d fs within rest = subst (λ hs. R hs (e ∷ fs)) (sym (later_goes e g gs n d)) (more e (swap_remove (g ∷ gs) n d) fs rest)

  taken : (es : List (K × V)) (d : K × V) → position_or_len t (keys_of es) < length es → R (swap_remove es (position_or_len t (keys_of es)) d) (remove_entry t es)
  taken [] d within = absurd (omega (arith, within))
  taken (e ∷ es) d within = by (t e.0) within (taken es d)
    where
      n : ℕ
      n = position_or_len t (keys_of es)

      by : (b : Bool) → cond (not b) (1 + n) 0 < length (e ∷ es) → (n < length es → R (swap_remove es n d) (remove_entry t es)) → R (swap_remove (e ∷ es) (cond (not b) (1 + n) 0) d) (cond b es (e ∷ remove_entry t es))
      by true here rest = first_taken e es d
      by false there rest = later_taken e es n d (remove_entry t es) (omega (arith, there)) (rest (omega (arith, there)))

  missing : (es : List (K × V)) → length es ≤ position_or_len t (keys_of es) → remove_entry t es ≡ es
  missing [] none = refl
  missing (e ∷ es) none = by (t e.0) none (missing es)
    where
      n : ℕ
      n = position_or_len t (keys_of es)

      by : (b : Bool) → length (e ∷ es) ≤ cond (not b) (1 + n) 0 → (length es ≤ n → remove_entry t es ≡ es) → cond b es (e ∷ remove_entry t es) ≡ e ∷ es
      by true here rest = absurd (omega (arith, here))
      by false there rest = ap (λ fs. e ∷ fs) (rest (omega (arith, there)))

  pub swap_removed : (es : List (K × V)) → R (swap_remove_entry t es) (remove_entry t es)
  swap_removed [] = same []
  swap_removed (e ∷ es) = by (nat_lt n (length (keys_of (e ∷ es)))) refl
    where
      n : ℕ
      n = position_or_len t (keys_of (e ∷ es))

      keys : length (keys_of (e ∷ es)) ≡ length (e ∷ es)
      keys = length-map (e ∷ es) (λ f. f.0)

      by : (b : Bool) → nat_lt n (length (keys_of (e ∷ es))) ≡ b → R (option_map_or (λ i. swap_remove (e ∷ es) i e) (cond b (Some n) None) (e ∷ es)) (remove_entry t (e ∷ es))
      by true within = taken (e ∷ es) e (omega (arith, keys, ltb-true n (length (keys_of (e ∷ es))) within))
      by false past =
          subst (R (e ∷ es)) (sym (missing (e ∷ es) (omega (arith, keys, ltb-false n (length (keys_of (e ∷ es))) past)))) (same (e ∷ es))
