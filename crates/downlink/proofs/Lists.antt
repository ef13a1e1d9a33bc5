-- Lists of which some items are left out.
use Rattle.std.proofs.Common.{ℕ, Bool, true, false, List, [], ◌∷◌, ◌++◌, refl, ap, inl, inr, ⊎_elim}
use Rattle.downlink.specs.Laws.{IsWithin, ticket_if}

pub within_same : {X : Type 0} (xs : List X) → IsWithin xs xs
within_same [] = refl
within_same (x ∷ xs) = inr (xs, refl, within_same xs)

pub none_within : {X : Type 0} (ys : List X) → IsWithin [] ys
none_within [] = refl
none_within (y ∷ ys) = inl (none_within ys)

-- behind the same items
pub within_after : {X : Type 0} (front xs ys : List X) → IsWithin xs ys → IsWithin (front ++ xs) (front ++ ys)
within_after [] xs ys h = h
within_after (a ∷ front) xs ys h = inr (front ++ xs, refl, within_after front xs ys h)

-- before the same items
pub within_before : {X : Type 0} (xs ys front : List X) → IsWithin xs ys → IsWithin (xs ++ front) (ys ++ front)
within_before xs [] front e = rw e (within_same front)
within_before xs (y ∷ ys) front (inl h) = inl (within_before xs ys front h)
within_before xs (y ∷ ys) front (inr h) = inr (h.0 ++ front, ap (λ zs. zs ++ front) h.1, within_before h.0 ys front h.2)

-- where more stands before
pub within_more : {X : Type 0} (front xs ys : List X) → IsWithin xs ys → IsWithin xs (front ++ ys)
within_more [] xs ys h = h
within_more (a ∷ front) xs ys h = inl (within_more front xs ys h)

-- where more stands behind
pub within_front : {X : Type 0} (xs ys : List X) → IsWithin xs (xs ++ ys)
within_front [] ys = none_within ys
within_front (x ∷ xs) ys = inr (xs, refl, within_front xs ys)

pub within_both : {X : Type 0} (xs ys zs : List X) → IsWithin xs ys → IsWithin ys zs → IsWithin xs zs
within_both xs ys [] h e = rw e at h
within_both xs ys (z ∷ zs) h (inl k) = inl (within_both xs ys zs h k)
within_both {X} xs ys (z ∷ zs) h (inr k) =
    let there : IsWithin xs (z ∷ k.0) = rw k.1 at h in
    ⊎_elim (λ a. inl (within_both xs k.0 zs a k.2)) (λ a. inr (a.0, a.1, within_both a.0 k.0 zs a.2 k.2)) there

pub ticket_within : (b : Bool) (ticket : ℕ) → IsWithin (ticket_if b ticket ++ []) (ticket ∷ [])
ticket_within true ticket = inr ([], refl, refl)
ticket_within false ticket = inl refl
