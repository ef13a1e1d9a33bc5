use Rattle.events.specs.LentEvents.{line_of}
use Rattle.replay.proofs.TakeSteps.{on_ok}
use Rattle.replay.proofs.SectionSteps.{replay-more}
use Rattle.replay.proofs.model.radio_replay.ReplayTakeLines.take_line.Goals as goal

pub returns : goal.returns
returns c config said h =
    on_ok c.take.result
    (λ takes. replay-more config c.args.self.now c.take.new.self said (line_of c.args.line) h takes)
    c.take.ensures.taken
