use Rattle.networks.proofs.FrameSteps.{cut-push}
use Rattle.networks.proofs.sent_frames.SentFrames.push.Goals as goal

pub returns-clause-ok : goal.returns-clause-ok
returns-clause-ok c =
    rw (
      c.push_reserved.ensures.items,
      c.in_ok-reserve.ensures.items,
      c.in_ok-extend_from_slice.ensures.items,
      ← c.self.view_is,
    )
    (cut-push _ _ _ c.self.invariant)
