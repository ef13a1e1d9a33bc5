use Rattle.std.proofs.Common.{◌∙◌, Ok, ap, sym}
use Rattle.std.proofs.lemmas.Result.{err_from_is_err_and}
use Rattle.play_text.proofs.reading.read_lines.Goals as goal

pub returns-in_err-take_text : goal.returns-in_err-take_text
returns-in_err-take_text c =
    let p = err_from_is_err_and c.from_residual-in_err-take_text.result c.from_residual-in_err-take_text.ensures.1 in
    rw (p.1, p.2) (c.in_err-take_text.ensures c.args.config.now c.in_ok-reader.ensures c.new-2.ensures)

pub returns : goal.returns
returns c =
    let taken = c.in_ok-take_text.ensures c.args.config.now c.in_ok-reader.ensures c.new-2.ensures in
    taken.1 ∙ ap Ok (sym taken.2)
