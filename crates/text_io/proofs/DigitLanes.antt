-- Vectors that are computed lane by lane from a list v.
use Rattle.std.proofs.Common.{◌≡◌, ℕ, ◌+◌, ◌-◌, ◌%◌, ◌^◌, ltb, cond, List, [], ◌∷◌, map, refl, ap, ◌∙◌}
use Rattle.std.proofs.lemmas.Simd.{zip2_of_maps}
use lib.Lanes.{zip2, sel_l, top}

-- ---- one lane

abbrev pub add : ℕ → ℕ → ℕ
add a b = (a + b) % 2 ^ 8

abbrev pub less : ℕ → ℕ → ℕ
less a b = (a + (2 ^ 8 - b)) % 2 ^ 8

-- all ones where a is below b
abbrev pub below : ℕ → ℕ → ℕ
below a b = cond (ltb a b) 255 0

-- the smaller of two
abbrev pub smaller : ℕ → ℕ → ℕ
smaller a b = cond (top 7 (below a b)) a b

-- a - b, or 0
abbrev pub saturating_less : ℕ → ℕ → ℕ
saturating_less a b = less (cond (top 7 (below a b)) b a) b

-- ---- the same of all lanes

abbrev pub smaller_l : List ℕ → List ℕ → List ℕ
smaller_l a b = sel_l (map (top 7) (zip2 below a b)) a b

abbrev pub saturating_less_l : List ℕ → List ℕ → List ℕ
saturating_less_l a b = zip2 less (sel_l (map (top 7) (zip2 below a b)) b a) b

pub itself : (v : List ℕ) → v ≡ map (λ x. x) v
itself [] = refl
itself (x ∷ xs) = ap (λ r. x ∷ r) (itself xs)

sel_l-maps : (m f g : ℕ → ℕ) (v : List ℕ)
    → sel_l (map (top 7) (map m v)) (map f v) (map g v) ≡ map (λ x. cond (top 7 (m x)) (f x) (g x)) v
sel_l-maps m f g [] = refl
sel_l-maps m f g (x ∷ xs) = ap (λ r. cond (top 7 (m x)) (f x) (g x) ∷ r) (sel_l-maps m f g xs)

-- a choice by a mask
pub chosen : (m f g : ℕ → ℕ) (v : List ℕ) {a x y : List ℕ} → a ≡ map m v → x ≡ map f v → y ≡ map g v
    → sel_l (map (top 7) a) x y ≡ map (λ x. cond (top 7 (m x)) (f x) (g x)) v
chosen m f g v p q r = (λ i. sel_l (map (top 7) (p i)) (q i) (r i)) ∙ sel_l-maps m f g v

module _ (f g : ℕ → ℕ) (v : List ℕ) {a b : List ℕ} (p : a ≡ map f v) (q : b ≡ map g v) where
  pub smaller_is : smaller_l a b ≡ map (λ x. smaller (f x) (g x)) v
  smaller_is = chosen (λ x. below (f x) (g x)) f g v (zip2_of_maps below f g v p q) p q

  pub saturating_less_is : saturating_less_l a b ≡ map (λ x. saturating_less (f x) (g x)) v
  saturating_less_is =
      let m = zip2_of_maps below f g v p q in
      let larger = chosen (λ x. below (f x) (g x)) g f v m q p in
      zip2_of_maps less (λ x. cond (top 7 (below (f x) (g x))) (g x) (f x)) g v larger q
