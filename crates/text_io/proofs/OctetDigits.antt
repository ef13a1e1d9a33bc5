-- Octets as digits, part by part.
use Rattle.std.proofs.Common.{◌≡◌, ℕ, ◌/◌, ◌%◌, List, [], ◌∷◌, ◌++◌, slice_index, take, drop, refl, sym, ap, ◌∙◌}
use Rattle.std.proofs.Common.{take-append-drop, append_assoc}
use Rattle.hex.specs.Hex.{encode_with, encode_lower, lower_digits}

encode_with-append : (t xs ys : List ℕ) → encode_with t (xs ++ ys) ≡ encode_with t xs ++ encode_with t ys
unfolding encode_with
encode_with-append t [] ys = refl
encode_with-append t (x ∷ xs) ys =
    ap (λ l. slice_index t (x / 16) ∷ slice_index t (x % 16) ∷ l) (encode_with-append t xs ys)

pub encode_lower-nil : encode_lower [] ≡ []
unfolding encode_with
encode_lower-nil = refl

pub encode_lower-append : (xs ys : List ℕ) → encode_lower (xs ++ ys) ≡ encode_lower xs ++ encode_lower ys
encode_lower-append = encode_with-append lower_digits

-- a list that is cut in two
pub prefix_and_suffix : (n : ℕ) (xs prefix suffix : List ℕ) → prefix ≡ take n xs → suffix ≡ drop n xs
    → xs ≡ prefix ++ suffix
prefix_and_suffix n xs prefix suffix p s = rw (p, s) (sym (take-append-drop n xs))

-- the octets so far, and then a prefix of the rest
pub digits_grow : (octets done rest prefix suffix : List ℕ) → octets ≡ done ++ rest → rest ≡ prefix ++ suffix
    → octets ≡ (done ++ prefix) ++ suffix
digits_grow octets done rest prefix suffix split cut =
    split ∙ ap (λ l. done ++ l) cut ∙ sym (append_assoc done prefix suffix)
