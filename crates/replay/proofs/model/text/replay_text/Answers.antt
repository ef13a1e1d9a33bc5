use Rattle.std.proofs.Common.{Ok, refl}
use Rattle.std.proofs.lemmas.Result.{err_from_is_err_and}
use Rattle.replay.proofs.SectionSteps.{replay-none, replay-sections}
use Rattle.replay.proofs.model.text.replay_text.Goals as goal

pub returns-in_err-take_text : goal.returns-in_err-take_text
returns-in_err-take_text c =
    let p = err_from_is_err_and c.from_residual-in_err-take_text.result c.from_residual-in_err-take_text.ensures.1 in
    rw (p.1, p.2)
    (c.in_err-take_text.ensures c.args.config c.in_ok-lines.ensures
    (replay-none c.args.config c.in_ok-replay.replay c.in_ok-replay.ensures))

pub returns : goal.returns
returns c =
    let taken =
    c.in_ok-take_text.ensures c.args.config c.in_ok-lines.ensures
    (replay-none c.args.config c.in_ok-replay.replay c.in_ok-replay.ensures) in (
      taken.0,
      taken.1,
      replay-sections {E = Unit {0}} c.args.config c.take_text.new.lines taken.0 taken.0
          (Ok c.in_ok-into_sections.field-0) taken.2 refl c.in_ok-into_sections.ensures,
    )
