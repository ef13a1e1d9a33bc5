use Rattle.trace.proofs.PieceSteps.{remains_none}
use Rattle.trace.proofs.line_reader.LineReader.take_lines.Goals as goal

pub cut_text-requires : goal.cut_text-requires
cut_text-requires g c = (
  c.args.self.now,
  c.args.lines.now,
  tt,
  c.args.piece.now,
  remains_none c.args.self.now c.args.piece.now _ c.requires,
)

pub returns : goal.returns
returns g c =
    let end =
    c.cut_text.ensures c.args.self.now c.args.lines.now tt c.args.piece.now
    (remains_none c.args.self.now c.args.piece.now _ c.requires) in
    record { takes = end.takes; ok = end.goes; keeps = end.same }
