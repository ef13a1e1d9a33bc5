-- Lists of which a part has been gone through.
use Rattle.std.proofs.Common.{◌≡◌, ℕ, zero, suc, ◌+◌, ◌<◌, Bool, true, List, [], ◌∷◌, length, map, get_or, set, refl, ap, ◌∙◌, add-one, arith}
use Rattle.std.specs.List.{list_all}
use Rattle.std.proofs.lemmas.Bool.{and_parts, and_from}

-- a list whose first elements are mapped
abbrev pub mapped_first : {X : Type 0} → (X → X) → ℕ → List X → List X
mapped_first f zero xs = xs
mapped_first f (suc n) [] = []
mapped_first f (suc n) (x ∷ xs) = f x ∷ mapped_first f n xs

pub mapped_first-all : {X : Type 0} (f : X → X) (xs : List X) → mapped_first f (length xs) xs ≡ map f xs
mapped_first-all f [] = refl
mapped_first-all f (x ∷ xs) = ap (λ ys. f x ∷ ys) (mapped_first-all f xs)

pub length-mapped_first : {X : Type 0} (f : X → X) (n : ℕ) (xs : List X) → length (mapped_first f n xs) ≡ length xs
length-mapped_first f zero xs = refl
length-mapped_first f (suc n) [] = refl
length-mapped_first f (suc n) (x ∷ xs) = ap suc (length-mapped_first f n xs)

pub get_or-mapped_first : {X : Type 0} (f : X → X) (n : ℕ) (xs : List X) (d : X) → get_or (mapped_first f n xs) n d ≡ get_or xs n d
get_or-mapped_first f zero xs d = refl
get_or-mapped_first f (suc n) [] d = refl
get_or-mapped_first f (suc n) (x ∷ xs) d = get_or-mapped_first f n xs d

mapped_first-more : {X : Type 0} (f : X → X) (n : ℕ) (xs : List X) (d : X) → n < length xs
    → set (mapped_first f n xs) n (f (get_or xs n d)) ≡ mapped_first f (suc n) xs
mapped_first-more f n [] d l = absurd (omega arith)
mapped_first-more f zero (x ∷ xs) d l = refl
mapped_first-more f (suc n) (x ∷ xs) d l = ap (λ ys. f x ∷ ys) (mapped_first-more f n xs d (omega arith))

-- one element more is mapped in its place
pub mapped_first_next : {X : Type 0} (f : X → X) (n : ℕ) (xs ys : List X) (d : X) → n < length ys
    → ys ≡ mapped_first f n xs → set ys n (f (get_or ys n d)) ≡ mapped_first f (n + 1) xs
mapped_first_next f n xs ys d l e =
    let within : n < length xs = omega (arith, length-mapped_first f n xs, ap length e) in
    ap (λ zs. set zs n (f (get_or zs n d))) e ∙ ap (λ y. set (mapped_first f n xs) n (f y)) (get_or-mapped_first f n xs d)
    ∙ mapped_first-more f n xs d within ∙ rw add-one refl

-- ---- a test that all elements pass

pub list_all_from : {X : Type 0} (test : X → Bool) (xs : List X) (d : X)
    → ((k : ℕ) → k < length xs → test (get_or xs k d) ≡ true) → list_all test xs ≡ true
list_all_from test [] d h = refl
list_all_from test (x ∷ xs) d h =
    and_from _ _ (h 0 (omega arith)) (list_all_from test xs d (λ k l. h (suc k) (omega arith)))

pub list_all_at : {X : Type 0} (test : X → Bool) (xs : List X) (d : X) (k : ℕ)
    → list_all test xs ≡ true → k < length xs → test (get_or xs k d) ≡ true
list_all_at test [] d k h l = absurd (omega arith)
list_all_at test (x ∷ xs) d zero h l = (and_parts _ _ h).0
list_all_at test (x ∷ xs) d (suc k) h l = list_all_at test xs d k (and_parts _ _ h).1 (omega arith)
