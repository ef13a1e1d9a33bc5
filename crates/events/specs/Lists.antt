-- Parts of lists.
use Rattle.std.specs.Prelude.{◌≡◌, List, ◌++◌}

-- the second list begins with the first
abbrev pub IsPrefix : {A : Type 0} → List A → List A → Type 0
IsPrefix {A} xs ys = (rest : List A) × (xs ++ rest ≡ ys)

-- the second list ends with the first
abbrev pub IsSuffix : {A : Type 0} → List A → List A → Type 0
IsSuffix {A} xs ys = (before : List A) × (before ++ xs ≡ ys)
