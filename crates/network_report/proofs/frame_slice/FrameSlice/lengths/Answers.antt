use Rattle.std.proofs.Common.{length, map, ap, ◌∙◌}
use Rattle.network_report.proofs.SliceLaws.{lengths-cut}
use Rattle.network_report.proofs.frame_slice.FrameSlice.lengths.Goals as goal

pub returns : goal.returns
returns c = lengths-cut _ _ c.self.invariant ∙ ap (map length) c.self.view_is
