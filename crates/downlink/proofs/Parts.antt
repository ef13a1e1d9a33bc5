-- What a call makes of the one at a place, where it goes to one of several.
use Rattle.std.proofs.Common.{◌≡◌, ◌≢◌, ℕ, zero, suc, List, [], ◌∷◌, ◌++◌, set, Option, Some, None, refl, sym, ap, ◌∙◌, append_assoc}
use Rattle.std.proofs.Common.{inl, inr}
use Rattle.std.specs.Prelude.{◌⊎◌, nat_eq, slice_get, if◌then◌else◌}
use Rattle.std.specs.Option.{option_map, option_and_then, option_to_list}
use Rattle.std.proofs.lemmas.Bool.{cases_eq, eq-eqb, ne_eqb}
use Rattle.std.proofs.lemmas.Option.{none-some}
use Rattle.downlink.specs.Parts.{put_at, after_one, answer_of_one, own_call, own_answers}

-- ---- one of a list is set

pub set_there : {X : Type 0} (xs : List X) (place : ℕ) (x y : X) → slice_get xs place ≡ Some x → slice_get (set xs place y) place ≡ Some y
set_there [] place x y e = absurd (none-some x e)
set_there (a ∷ xs) zero x y e = refl
set_there (a ∷ xs) (suc place) x y e = set_there xs place x y e

pub set_elsewhere : {X : Type 0} (xs : List X) (place other : ℕ) (y : X) → place ≢ other
    → slice_get (set xs place y) other ≡ slice_get xs other
set_elsewhere [] place other y ne = refl
set_elsewhere (a ∷ xs) zero zero y ne = absurd (ne refl)
set_elsewhere (a ∷ xs) zero (suc other) y ne = refl
set_elsewhere (a ∷ xs) (suc place) zero y ne = refl
set_elsewhere (a ∷ xs) (suc place) (suc other) y ne = set_elsewhere xs place other y (λ e. ne (ap suc e))

put_elsewhere : {X : Type 0} (change : X → X) (xs : List X) (place other : ℕ) (old : Option X) → place ≢ other
    → slice_get (put_at change place xs old) other ≡ slice_get xs other
put_elsewhere change xs place other None ne = refl
put_elsewhere change xs place other (Some x) ne = set_elsewhere xs place other (change x) ne

-- ---- answers with their places

told_there : {A : Type 0} (place : ℕ) (told : Option A) → own_answers place (option_to_list (option_map (λ a. (place, a)) told)) ≡ option_to_list told
told_there place None = refl
told_there place (Some a) = ap (λ b. (if b then a ∷ [] else []) ++ []) (eq-eqb place place refl)

told_elsewhere : {A : Type 0} (place other : ℕ) (told : Option A) → place ≢ other
    → own_answers other (option_to_list (option_map (λ a. (place, a)) told)) ≡ []
told_elsewhere place other None ne = refl
told_elsewhere place other (Some a) ne = ap (λ b. (if b then a ∷ [] else []) ++ []) (ne_eqb place other ne)

pub own_answers-append : {A : Type 0} (place : ℕ) (xs ys : List (ℕ × A))
    → own_answers place (xs ++ ys) ≡ own_answers place xs ++ own_answers place ys
own_answers-append place [] ys = refl
own_answers-append {A} place (x ∷ xs) ys =
    let own : List A = if (nat_eq x.0 place) then x.1 ∷ [] else [] in
    ap (λ zs. own ++ zs) (own_answers-append place xs ys) ∙ sym (append_assoc own (own_answers place xs) (own_answers place ys))

-- ---- a call

-- it goes elsewhere, or it is one of the one at a place
pub own_step : {X C A : Type 0} (step : X → C → X) (answer : X → C → Option A) (given : Option (ℕ × C)) (xs : List X)
    (place : ℕ) (x : X) → slice_get xs place ≡ Some x
    → ((own_call place given ≡ []) × (slice_get (after_one step given xs) place ≡ Some x)
    × (own_answers place (option_to_list (answer_of_one answer given xs)) ≡ []))
    ⊎ ((call : C) × (own_call place given ≡ call ∷ []) × (slice_get (after_one step given xs) place ≡ Some (step x call))
    × (own_answers place (option_to_list (answer_of_one answer given xs)) ≡ option_to_list (answer x call)))
own_step step answer None xs place x e = inl (refl, e, refl)
own_step {X} {C} {A} step answer (Some given) xs place x e =
    let there : Option X → Option (ℕ × A) = λ old. option_map (λ a. (given.0, a)) (option_and_then (λ y. answer y given.1) old) in
    elim (cases_eq given.0 place) [
      | inl s ↦
          let at : slice_get xs given.0 ≡ Some x = ap (slice_get xs) s ∙ e in
          inr (
            given.1,
            ap (λ b. if b then given.1 ∷ [] else []) (eq-eqb given.0 place s),
            ap (λ old. slice_get (put_at (λ y. step y given.1) given.0 xs old) place) at
                ∙ ap (slice_get (set xs given.0 (step x given.1))) (sym s) ∙ set_there xs given.0 x (step x given.1) at,
            ap (λ old. own_answers place (option_to_list (there old))) at
                ∙ ap (λ p. own_answers p (option_to_list (there (Some x)))) (sym s) ∙ told_there given.0 (answer x given.1),
          )
      | inr ne ↦ inl (
        ap (λ b. if b then given.1 ∷ [] else []) (ne_eqb given.0 place ne),
        put_elsewhere (λ y. step y given.1) xs given.0 place (slice_get xs given.0) ne ∙ e,
        told_elsewhere given.0 place (option_and_then (λ y. answer y given.1) (slice_get xs given.0)) ne,
      )
    ]
