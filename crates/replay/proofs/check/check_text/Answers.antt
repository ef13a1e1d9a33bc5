use Rattle.std.proofs.Common.{◌≡◌, length, ap}
use Rattle.std.proofs.lemmas.Result.{err_from_is_err_and}
use Rattle.report.specs.Report.{count_line}
use Rattle.text_io.specs.EndingLaws.{whole_written}
use Rattle.replay.proofs.AnswerLemmas.{report_ends}
use Rattle.replay.proofs.CheckingLemmas.{fault_ends, check_of-read}
use Rattle.replay.proofs.check.check_text.Goals as goal

pub returns-in_err-config-clause-ends : goal.returns-in_err-config-clause-ends
returns-in_err-config-clause-ends g c =
    let p = err_from_is_err_and c.from_residual.result c.from_residual.ensures.1 in
    rw (p.1, p.2) (fault_ends c.in_err-config.field-0.0 c.args.config.now _ c.in_err-config.ensures.exact)

pub returns-in_err-write_count-clause-ends : goal.returns-in_err-write_count-clause-ends
returns-in_err-write_count-clause-ends g c =
    let p = err_from_is_err_and c.from_residual-in_err-write_count.result c.from_residual-in_err-write_count.ensures.1 in
    let line : count_line (length c.as_slice.result.now) ≡ count_line (length c.in_ok-config.config.networks) =
    ap (λ (ns : _). count_line (length ns)) c.as_slice.ensures in
    rw (p.1, p.2)
    (report_ends c.in_err-write_count.field-0.0 _ _ _ _
    (check_of-read c.in_ok-config.config _ c.args.config.now c.in_ok-config.ensures.exact line)
    c.in_err-write_count.ensures.ends)

pub returns-clause-ends : goal.returns-clause-ends
returns-clause-ends g c =
    let line : count_line (length c.as_slice.result.now) ≡ count_line (length c.in_ok-config.config.networks) =
    ap (λ (ns : _). count_line (length ns)) c.as_slice.ensures in
    whole_written _ _ _ _ (check_of-read c.in_ok-config.config _ c.args.config.now c.in_ok-config.ensures.exact line)
    c.in_ok-write_count.ensures.ends
