-- A header that is written field by field, each at its place, is the concatenation of its fields.
use Rattle.std.proofs.Common.{◌≡◌, ℕ, ◌+◌, List, [], ◌∷◌, ◌++◌, length, take, drop, refl}
use Rattle.std.specs.Prelude.{replicate}
use Rattle.mac_frame.proofs.Cells.{is_its_cells}

-- a header after a field was written at a place
abbrev with_field : ℕ → List ℕ → List ℕ → List ℕ
with_field place field header = take place header ++ field ++ drop (place + length field) header

-- the five fields that are not 0, and the string that each leaves
pub written_is :
    (control a b d sequence h0 h1 h2 h3 h4 h5 : List ℕ) → length control ≡ 2 → length a ≡ 6 → length b ≡ 6
    → length d ≡ 6 → length sequence ≡ 2
    → h0 ≡ replicate 24 0 → h1 ≡ with_field 0 control h0 → h2 ≡ with_field 4 a h1 → h3 ≡ with_field 10 b h2
    → h4 ≡ with_field 16 d h3 → h5 ≡ with_field 22 sequence h4
    → h5 ≡ control ++ (0 ∷ 0 ∷ []) ++ a ++ b ++ d ++ sequence
written_is control a b d sequence h0 h1 h2 h3 h4 h5 two six six_2 six_3 two_2 e0 e1 e2 e3 e4 e5 =
    let control_is = is_its_cells control 2 two in
    let a_is = is_its_cells a 6 six in
    let b_is = is_its_cells b 6 six_2 in
    let d_is = is_its_cells d 6 six_3 in
    let sequence_is = is_its_cells sequence 2 two_2 in
    rw (e5, e4, e3, e2, e1, e0, control_is, a_is, b_is, d_is, sequence_is) refl
