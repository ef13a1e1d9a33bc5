use Rattle.std.proofs.Common.{false, [], ◌∷◌, refl, subst, arith}
use Rattle.tim.specs.Tim.{ShowsTim}
use Rattle.recorded_frames.specs.Sent.{these}
use Rattle.recorded_frames.proofs.HostapdRows.{tim_of_more}
use Rattle.recorded_frames.proofs.tim_is_shown.Goals as goal

pub returns : goal.returns
returns c =
    subst (λ t. ShowsTim t 0 2 false (these (16 ∷ 17 ∷ []))) tim_of_more
    (c.one_tim.ensures.shows 0 2 false (these (16 ∷ 17 ∷ [])) (omega arith) (omega arith) (λ _. refl))
