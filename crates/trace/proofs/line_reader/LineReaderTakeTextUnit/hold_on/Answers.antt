use Rattle.trace.proofs.PieceSteps.{remains_end}
use Rattle.trace.proofs.line_reader.LineReaderTakeTextUnit.hold_on.Goals as goal

pub returns : goal.returns
returns g c first was is o to piece h =
    remains_end first piece c.args.self.now c.args.octets.now c.hold.new.self _ _ c.hold.result h c.requires.lacks
    c.hold.ensures.exact c.hold.ensures.ok c.hold.ensures.err
