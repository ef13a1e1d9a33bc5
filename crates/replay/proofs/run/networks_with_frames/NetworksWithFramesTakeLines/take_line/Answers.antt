use Rattle.events.specs.LentEvents.{line_of}
use Rattle.replay.proofs.NetworkLines.{all-may, networks-line}
use Rattle.replay.proofs.TakeSteps.{on_ok}
use Rattle.replay.proofs.run.networks_with_frames.NetworksWithFramesTakeLines.take_line.Goals as goal

pub take-requires-clause-may : goal.take-requires-clause-may
take-requires-clause-may c = all-may c.args.self.now.networks

pub returns : goal.returns
returns c config said was =
    on_ok c.take.result
    (λ takes.
    networks-line config said (line_of c.args.line) c.args.self.now.networks c.take.new.self tt tt was takes)
    c.take.ensures.taken
