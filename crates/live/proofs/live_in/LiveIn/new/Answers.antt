use Rattle.std.proofs.Common.{◌∙◌, ap}
use Rattle.live.specs.Inputs.{empty_partial}
use Rattle.live.proofs.InputSteps.{empty-in}
use Rattle.live.proofs.live_in.LiveIn.new.Goals as goal

pub invariant_of-result-2 : goal.invariant_of-result-2
invariant_of-result-2 g c =
    rw (c.in_ok-partial.ensures ∙ ap empty_partial c.face.ensures) (empty-in g.F.InFace.face)
