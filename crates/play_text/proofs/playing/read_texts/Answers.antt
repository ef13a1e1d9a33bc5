use Rattle.std.proofs.Common.{sym, ◌∙◌}
use Rattle.std.proofs.lemmas.Result.{err_from_is_err_and}
use Rattle.play_text.proofs.PlayEnds.{config_plays, traces_play}
use Rattle.play_text.proofs.playing.read_texts.Goals as goal

pub returns-in_err-config-clause-read : goal.returns-in_err-config-clause-read
returns-in_err-config-clause-read g c =
    let p = err_from_is_err_and c.from_residual.result c.from_residual.ensures.1 in
    rw (p.1, p.2)
    (λ known. config_plays c.in_err-config.field-0.0 c.args.config.now c.args.traces.now known c.in_err-config.ensures.exact)

pub returns-in_err-sources-clause-read : goal.returns-in_err-sources-clause-read
returns-in_err-sources-clause-read g c =
    let p = err_from_is_err_and c.from_residual-in_err-sources.result c.from_residual-in_err-sources.ensures.1 in
    rw (p.1, p.2)
    (λ known. traces_play c.in_err-sources.field-0.0 c.in_ok-config.config c.args.config.now c.args.traces.now known c.in_ok-config.ensures.exact (sym c.fit.ensures ∙ c.if-not-fit.false) c.in_err-sources.ensures)
