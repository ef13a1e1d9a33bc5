use Rattle.recorded_frames.proofs.WiresRows.{wired_are_read}
use Rattle.recorded_frames.proofs.wires_are_read.Goals as goal

pub returns : goal.returns
returns c = wired_are_read
