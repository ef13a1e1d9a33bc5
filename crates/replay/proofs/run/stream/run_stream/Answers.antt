use Rattle.std.proofs.lemmas.Result.{err_from_is_err_and}
use Rattle.replay.proofs.NetworkLines.{report-networks}
use Rattle.replay.proofs.StreamEnds.{config_runs, fault_runs, report_runs, whole_runs, all-reported}
use Rattle.replay.proofs.run.stream.run_stream.Goals as goal

pub returns-in_err-radio : goal.returns-in_err-radio
returns-in_err-radio g c =
    let p = err_from_is_err_and c.from_residual.result c.from_residual.ensures.1 in
    rw (p.1, p.2) (config_runs c.in_err-radio.field-0.0 c.args.config.now _ c.in_err-radio.ensures.exact)

pub returns-in_err-networks : goal.returns-in_err-networks
returns-in_err-networks g c =
    let p = err_from_is_err_and c.from_residual-in_err-networks.result c.from_residual-in_err-networks.ensures.1 in
    rw (p.1, p.2)
    (fault_runs _ c.in_err-networks.field-0.0 c.in_ok-radio.radio c.args.config.now _ _ _ c.in_ok-radio.ensures.exact
    c.in_err-networks.ensures)

pub returns-in_err-write : goal.returns-in_err-write
returns-in_err-write g c =
    let p = err_from_is_err_and c.from_residual-in_err-write.result c.from_residual-in_err-write.ensures.1 in
    let config = c.in_ok-radio.radio in
    let networks = c.in_ok-networks.networks in
    let s = c.in_ok-networks.ensures in
    rw (p.1, p.2)
    (report_runs _ networks c.in_err-write.field-0.0 config c.args.config.now _ _ c.in_ok-radio.ensures.exact
    (all-reported _ networks config _ s)
    (rw (report-networks config s.end.1.0 networks.networks s.end.1.2 c.as_sections.ensures.all) at c.in_err-write.ensures.ends)
    c.in_err-write.ensures.failures)

pub returns : goal.returns
returns g c =
    let config = c.in_ok-radio.radio in
    let networks = c.in_ok-networks.networks in
    let s = c.in_ok-networks.ensures in
    whole_runs _ networks _ config c.args.config.now _ _ c.in_ok-radio.ensures.exact (all-reported _ networks config _ s)
    (rw (report-networks config s.end.1.0 networks.networks s.end.1.2 c.as_sections.ensures.all) at c.in_ok-write.ensures.ends)
    c.in_ok-write.ensures.failures
