-- Tables of what functions compute.
use Prim.Native.String.{String}
use Rattle.std.proofs.Common.{◌≡◌, List, map}

-- each row tells what it shows; at this argument the function has this result
abbrev pub Computes : {A B : Type 0} → (A → B) → List (String × A × B) → Type 0
Computes {A} {B} f rows = map (λ (row : String × A × B). f row.1) rows ≡ map (λ (row : String × A × B). row.2) rows
