use Rattle.std.proofs.Common.{ap, length, ◌∙◌}
use Rattle.std.proofs.KnownBytes.{Keeps-refl}
use Rattle.std.proofs.lemmas.Result.{err_from_is_err_and}
use Rattle.live.proofs.RunEnds.{memory-runs, config-runs, count-runs, input-runs, end-runs, whole-runs, from-first}
use Rattle.live.proofs.RunEnds.{begins-so, count-failures}
use Rattle.live.proofs.live_in.LiveIn.run.Goals as goal

pub returns-in_err-config-clause-ends : goal.returns-in_err-config-clause-ends
returns-in_err-config-clause-ends g c =
    let p = err_from_is_err_and c.from_residual.result c.from_residual.ensures.1 in
    rw (p.1, p.2)
    (config-runs g.F.InFace.face c.in_err-config.field-0.0 c.args.config.now _ _ c.in_err-config.ensures.exact)

pub returns-in_err-live-clause-ends : goal.returns-in_err-live-clause-ends
returns-in_err-live-clause-ends g c =
    let p = err_from_is_err_and c.from_residual-in_err-live.result c.from_residual-in_err-live.ensures.1 in
    rw (p.1, p.2) (memory-runs g.F.InFace.face c.args.config.now _ _ _ (Keeps-refl _))

pub returns-in_err-write_open-clause-ends : goal.returns-in_err-write_open-clause-ends
returns-in_err-write_open-clause-ends g c =
    let p =
    err_from_is_err_and c.from_residual-in_err-write_open.result c.from_residual-in_err-write_open.ensures.1 in
    let config = c.in_ok-config.config in
    rw (p.1, p.2)
    (count-runs
    (record { more = c.answers_to_more.ensures; last = c.lines_come_in_pieces.ensures.last; some = c.enough_memory.ensures.some })
    g.F.InFace.face c.in_err-write_open.field-0.0 config c.args.config.now _ _ _ c.in_ok-config.ensures.exact
    (rw (ap length c.as_slice-count.ensures) at c.in_err-write_open.ensures.ends)
    c.in_err-write_open.ensures.memory)

pub returns-in_err-write_open-clause-failures : goal.returns-in_err-write_open-clause-failures
returns-in_err-write_open-clause-failures g c =
    let p =
    err_from_is_err_and c.from_residual-in_err-write_open.result c.from_residual-in_err-write_open.ensures.1 in
    rw (p.1, p.2) (c.in_err-write_open.ensures.failures ∙ count-failures c.in_err-write_open.field-0.0 _)

pub returns-in_err-answer_input-clause-ends : goal.returns-in_err-answer_input-clause-ends
returns-in_err-answer_input-clause-ends g c =
    let p =
    err_from_is_err_and c.from_residual-in_err-answer_input.result c.from_residual-in_err-answer_input.ensures.1 in
    let config = c.in_ok-config.config in
    rw (p.1, p.2)
    (input-runs
    (record { more = c.answers_to_more.ensures; last = c.lines_come_in_pieces.ensures.last; some = c.enough_memory.ensures.some })
    g.F.InFace.face c.in_err-answer_input.field-0.0 config c.args.config.now _ _ _ c.answer_input.new.live.moment c.answer_input.new.live.partial
    c.in_ok-config.ensures.exact
    (rw (ap length c.as_slice-count.ensures) at c.in_ok-write_open.ensures.ends)
    (from-first g.F.InFace.face _ config c.in_ok-live.live _ _ c.in_ok-live.ensures
    c.in_err-answer_input.ensures.answers))

pub returns-in_err-end-clause-ends : goal.returns-in_err-end-clause-ends
returns-in_err-end-clause-ends g c =
    let p = err_from_is_err_and c.from_residual-in_err-end.result c.from_residual-in_err-end.ensures.1 in
    let config = c.in_ok-config.config in
    rw (p.1, p.2)
    (end-runs
    (record { more = c.answers_to_more.ensures; last = c.lines_come_in_pieces.ensures.last; some = c.enough_memory.ensures.some })
    g.F.InFace.face _ _ config c.args.config.now _ _ _ _ c.answer_input.new.live.moment c.answer_input.new.live.partial c.in_ok-config.ensures.exact
    (rw (ap length c.as_slice-count.ensures) at c.in_ok-write_open.ensures.ends)
    (from-first g.F.InFace.face _ config c.in_ok-live.live _ _ c.in_ok-live.ensures
    c.in_ok-answer_input.ensures.answers)
    c.in_err-end.ensures.finishes)

pub returns-clause-ends : goal.returns-clause-ends
returns-clause-ends g c =
    let config = c.in_ok-config.config in
    whole-runs
    (record { more = c.answers_to_more.ensures; last = c.lines_come_in_pieces.ensures.last; some = c.enough_memory.ensures.some })
    g.F.InFace.face _ _ _ config c.args.config.now _ _ _ _ c.answer_input.new.live.moment c.answer_input.new.live.partial c.in_ok-config.ensures.exact
    (rw (ap length c.as_slice-count.ensures) at c.in_ok-write_open.ensures.ends)
    (from-first g.F.InFace.face _ config c.in_ok-live.live _ _ c.in_ok-live.ensures
    c.in_ok-answer_input.ensures.answers)
    c.in_ok-end.ensures.finishes

pub end-requires-clause-countable : goal.end-requires-clause-countable
end-requires-clause-countable g c = c.in_ok-answer_input.ensures.countable

pub answer_input-requires-clause-empty : goal.answer_input-requires-clause-empty
answer_input-requires-clause-empty g c = begins-so g.F.InFace.face _ _ c.in_ok-live.ensures
