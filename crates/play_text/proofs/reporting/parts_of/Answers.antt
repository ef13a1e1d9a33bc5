-- The parts are the frames, one part after the other.
use Rattle.std.proofs.Common.{◌++◌, List, ℕ, sym, ap, ◌∙◌, append-nil, append_assoc}
use Rattle.std.specs.Prelude.{flat_map}
use Rattle.play_text.proofs.Parts.{parted}
use Rattle.play_text.proofs.reporting.parts_of.Goals as goal

pub returns : goal.returns
returns c =
    let one : List (List ℕ) = c.split_at-one.result.0 in
    let two : List (List ℕ) = c.split_at-one.result.1 in
    let three : List (List ℕ) = c.split_at-three.result.0 in
    let four : List (List ℕ) = c.split_at-three.result.1 in
    ap (flat_map (λ p. p)) c.in_ok-vec.ensures.items
    ∙ ap (λ (fs : List (List ℕ)). one ++ (two ++ (three ++ fs))) (append-nil four)
    ∙ ap (λ (fs : List (List ℕ)). one ++ (two ++ fs))
    (sym (parted _ _ c.split_at-three.ensures.front c.split_at-three.ensures.back))
    ∙ sym (append_assoc one two c.split_at-front.result.1)
    ∙ ap (λ (fs : List (List ℕ)). fs ++ c.split_at-front.result.1)
    (sym (parted _ _ c.split_at-one.ensures.front c.split_at-one.ensures.back))
    ∙ sym (parted _ _ c.split_at-front.ensures.front c.split_at-front.ensures.back)
