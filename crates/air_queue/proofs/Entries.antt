-- What was taken in of networks, with one entry more.
use Rattle.std.proofs.Common.{◌≡◌, ℕ, List, Some, cond, refl, ap, ◌∙◌}
use Rattle.std.specs.FinMap as finite
use Rattle.std.proofs.lemmas.Bool.{eq-eqb, ne_eqb}
use Rattle.std.specs.Cmp.{nat_cmp_total, unsigned_tied}
use Rattle.air_queue.specs.Passes.{TakenIn}

pub get-here : (taken_in : TakenIn) (place : ℕ) (pushed : List (List ℕ)) → finite.get (finite.insert taken_in place pushed) place ≡ Some pushed
get-here taken_in place pushed =
    finite.get-insert nat_cmp_total taken_in place pushed place
    ∙ ap (λ b. cond b (Some pushed) (finite.get taken_in place)) (unsigned_tied place place ∙ eq-eqb place place refl)

pub get-other : (taken_in : TakenIn) (place : ℕ) (pushed : List (List ℕ)) (other : ℕ) → (other ≡ place → ⊥) → finite.get (finite.insert taken_in place pushed) other ≡ finite.get taken_in other
get-other taken_in place pushed other ne =
    finite.get-insert nat_cmp_total taken_in place pushed other
    ∙ ap (λ b. cond b (Some pushed) (finite.get taken_in other)) (unsigned_tied other place ∙ ne_eqb other place ne)
