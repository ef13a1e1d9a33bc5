use Rattle.std.proofs.lemmas.Result.{err_from_is_err_and}
use Rattle.text_io.specs.EndingLaws.{whole_written}
use Rattle.replay.proofs.AnswerLemmas.{config_ends, trace_ends, answer_of-sections, report_ends}
use Rattle.replay.proofs.model.text.report_texts.Goals as goal

pub returns-in_err-config-clause-ends : goal.returns-in_err-config-clause-ends
returns-in_err-config-clause-ends g c =
    let p = err_from_is_err_and c.from_residual.result c.from_residual.ensures.1 in
    rw (p.1, p.2)
    (config_ends c.in_err-config.field-0.0 c.args.config.now c.args.trace.now _ c.in_err-config.ensures.exact)

pub returns-in_err-sections-clause-ends : goal.returns-in_err-sections-clause-ends
returns-in_err-sections-clause-ends g c =
    let p = err_from_is_err_and c.from_residual-in_err-sections.result c.from_residual-in_err-sections.ensures.1 in
    rw (p.1, p.2)
    (trace_ends c.in_err-sections.field-0.0 c.in_ok-config.config c.args.config.now c.args.trace.now _
    c.in_ok-config.ensures.exact c.in_err-sections.ensures)

pub returns-in_err-write_report-clause-ends : goal.returns-in_err-write_report-clause-ends
returns-in_err-write_report-clause-ends g c =
    let p =
    err_from_is_err_and c.from_residual-in_err-write_report.result c.from_residual-in_err-write_report.ensures.1 in
    let answer =
    answer_of-sections c.in_ok-config.config c.in_ok-sections.sections.items c.args.config.now c.args.trace.now
    c.in_ok-config.ensures.exact c.in_ok-sections.ensures in
    rw (p.1, p.2)
    (report_ends c.in_err-write_report.field-0.0 _ _ _ _ answer
    (rw c.as_slice.ensures.value at c.in_err-write_report.ensures.ends))

pub returns-clause-ends : goal.returns-clause-ends
returns-clause-ends g c =
    let answer =
    answer_of-sections c.in_ok-config.config c.in_ok-sections.sections.items c.args.config.now c.args.trace.now
    c.in_ok-config.ensures.exact c.in_ok-sections.ensures in
    whole_written _ _ _ _ answer (rw c.as_slice.ensures.value at c.in_ok-write_report.ensures.ends)

pub returns-clause-sections : goal.returns-clause-sections
returns-clause-sections g c = (c.in_ok-config.config, c.in_ok-config.ensures.exact, c.in_ok-sections.ensures)
