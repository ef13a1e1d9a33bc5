-- Where as many units stay as there were, none has left.
use Rattle.std.proofs.Common.{◌≡◌, ◌≤◌, ℕ, Bool, true, not, List, [], ◌∷◌, length, refl, ap, arith}
use Rattle.std.specs.Prelude.{filter, nat_lt}
use Rattle.std.proofs.lemmas.Bool.{lt-ltb, ltb-true}
use Rattle.powersave.specs.declared.unit.Unit.{Unit as DataUnit}

-- no more pass a test than there are
pub no_more : {X : Type 0} (p : X → Bool) (xs : List X) → length (filter p xs) ≤ length xs
no_more p [] = omega arith
no_more p (x ∷ xs) = grind (arith, no_more p xs)

-- where as many do, each does
pub all-pass : {X : Type 0} (p : X → Bool) (xs : List X) → length xs ≤ length (filter p xs) → filter p xs ≡ xs
all-pass p [] many = refl
all-pass p (x ∷ xs) many = grind (arith, many, all-pass p xs, no_more p xs)

-- where some of those for one stay that came at a clock or later, some were kept
pub some-before : (limit : ℕ) (units left : List DataUnit) → left ≡ filter (λ unit. not (nat_lt unit.at limit)) units → nat_lt 0 (length left) ≡ true → nat_lt 0 (length units) ≡ true
some-before limit units left is some =
    let lt = ltb-true 0 (length left) some in
    lt-ltb 0 (length units) (omega (arith, lt, ap length is, no_more (λ (unit : DataUnit). not (nat_lt unit.at limit)) units))
