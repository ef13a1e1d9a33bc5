use Rattle.std.proofs.lemmas.Result.{err_from_is_err_and}
use Rattle.replay.proofs.run.text.networks_of_text.Goals as goal

pub returns-in_err-take_text : goal.returns-in_err-take_text
returns-in_err-take_text c =
    let p = err_from_is_err_and c.from_residual-in_err-take_text.result c.from_residual-in_err-take_text.ensures.1 in
    rw (p.1, p.2) (c.in_err-take_text.ensures c.args.config c.in_ok-lines.ensures c.in_ok-networks.ensures)

pub returns : goal.returns
returns c = c.in_ok-take_text.ensures c.args.config c.in_ok-lines.ensures c.in_ok-networks.ensures
