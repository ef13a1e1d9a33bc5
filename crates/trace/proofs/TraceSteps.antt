-- What the steps of reading a trace text rest on.
use Rattle.std.proofs.Common.{◌≡◌, ℕ, ◌<◌, List, [], ◌∷◌, length, drop, refl, get_or, one-add, arith}
use Rattle.std.proofs.lemmas.Bool.{eq-eqb, ne_eqb}
use Rattle.trace.specs.TraceText.{without_spaces_at_start}

-- ---- spaces at the start

-- a space is dropped
pub space_first : (text : List ℕ) → 0 < length text → get_or text 0 0 ≡ 32
    → without_spaces_at_start text ≡ without_spaces_at_start (drop 1 text)
space_first [] some e = absurd (omega arith)
space_first (x ∷ xs) some e = rw (eq-eqb x 32 e, one-add) refl

-- another character stays
pub other_first : (text : List ℕ) → (get_or text 0 0 ≡ 32 → ⊥) → without_spaces_at_start text ≡ text
other_first [] ne = refl
other_first (x ∷ xs) ne = rw (ne_eqb x 32 ne) refl

pub ruleset starts = (space_first, other_first)
