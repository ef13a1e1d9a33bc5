use Rattle.std.proofs.Common.{[]}
use Rattle.std.proofs.lemmas.Result.{err_from_is_err_and}
use Rattle.trace.proofs.PieceSteps.{taken_first}
use Rattle.trace.proofs.line_reader.LineReader.take_text.Goals as goal

pub returns-in_err-take_piece : goal.returns-in_err-take_piece
returns-in_err-take_piece g c config new none =
    let p = err_from_is_err_and c.from_residual.result c.from_residual.ensures.1 in
    rw (p.1, p.2)
    (c.in_err-take_piece.ensures.all config []
    (taken_first config c.args.self (λ said. g.T.TakeLines.has_taken config said c.args.lines.now) new none))

pub returns : goal.returns
returns g c config new none =
    c.take_end.ensures.all config c.args.text.now
    (c.in_ok-take_piece.ensures.all config []
    (taken_first config c.args.self (λ said. g.T.TakeLines.has_taken config said c.args.lines.now) new none))
