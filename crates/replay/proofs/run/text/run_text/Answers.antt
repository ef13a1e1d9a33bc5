use Rattle.std.proofs.Common.{refl}
use Rattle.std.proofs.lemmas.Result.{err_from_is_err_and}
use Rattle.network.specs.Section.{sections_of_lines}
use Rattle.text_io.specs.EndingLaws.{whole_written}
use Rattle.replay.proofs.AnswerLemmas.{config_ends, trace_ends, answer_of-sections, report_ends}
use Rattle.replay.proofs.NetworkLines.{report-networks}
use Rattle.replay.proofs.run.text.run_text.Goals as goal

pub returns-in_err-radio-clause-ends : goal.returns-in_err-radio-clause-ends
returns-in_err-radio-clause-ends g c =
    let p = err_from_is_err_and c.from_residual.result c.from_residual.ensures.1 in
    rw (p.1, p.2)
    (config_ends c.in_err-radio.field-0.0 c.args.config.now c.args.trace.now _ c.in_err-radio.ensures.exact)

pub returns-in_err-networks-clause-ends : goal.returns-in_err-networks-clause-ends
returns-in_err-networks-clause-ends g c =
    let p = err_from_is_err_and c.from_residual-in_err-networks.result c.from_residual-in_err-networks.ensures.1 in
    rw (p.1, p.2)
    (trace_ends c.in_err-networks.field-0.0 c.in_ok-radio.radio c.args.config.now c.args.trace.now _
    c.in_ok-radio.ensures.exact c.in_err-networks.ensures)

pub returns-in_err-write-clause-ends : goal.returns-in_err-write-clause-ends
returns-in_err-write-clause-ends g c =
    let p = err_from_is_err_and c.from_residual-in_err-write.result c.from_residual-in_err-write.ensures.1 in
    let config = c.in_ok-radio.radio in
    let networks = c.in_ok-networks.networks in
    let taken = c.in_ok-networks.ensures in
    let answer =
    answer_of-sections config (sections_of_lines config taken.0) c.args.config.now c.args.trace.now
    c.in_ok-radio.ensures.exact (taken.0, taken.1, refl) in
    rw (p.1, p.2)
    (report_ends c.in_err-write.field-0.0 _ _ _ _ answer
    (rw (report-networks config taken.0 networks.networks taken.2 c.as_sections.ensures.all) at c.in_err-write.ensures.ends))

pub returns-clause-ends : goal.returns-clause-ends
returns-clause-ends g c =
    let config = c.in_ok-radio.radio in
    let networks = c.in_ok-networks.networks in
    let taken = c.in_ok-networks.ensures in
    let answer =
    answer_of-sections config (sections_of_lines config taken.0) c.args.config.now c.args.trace.now
    c.in_ok-radio.ensures.exact (taken.0, taken.1, refl) in
    whole_written _ _ _ _ answer
    (rw (report-networks config taken.0 networks.networks taken.2 c.as_sections.ensures.all) at c.in_ok-write.ensures.ends)
