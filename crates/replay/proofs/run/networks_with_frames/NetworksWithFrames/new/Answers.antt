use Rattle.replay.proofs.NetworkLines.{networks-fresh}
use Rattle.replay.proofs.run.networks_with_frames.NetworksWithFrames.new.Goals as goal

pub returns : goal.returns
returns c = networks-fresh c.args.config c.in_ok-open.field-0 c.in_ok-open.ensures
