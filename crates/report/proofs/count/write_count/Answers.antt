use Rattle.std.proofs.Common.{Ok}
use Rattle.std.proofs.KnownBytes.{Keeps-refl}
use Rattle.std.proofs.lemmas.Result.{err_from_is_err_and}
use Rattle.report.specs.Report.{count_line}
use Rattle.text_io.specs.EndingLaws.{nothing_written}
use Rattle.report.proofs.count.write_count.Goals as goal

pub returns-in_err-line-clause-ends : goal.returns-in_err-line-clause-ends
returns-in_err-line-clause-ends g c =
    let p = err_from_is_err_and c.from_residual.result c.from_residual.ensures.1 in
    rw (p.1, p.2) (nothing_written {F = ⊥} (Ok (count_line c.args.count)) (g.W.Sink.taken c.args.out.now))

pub returns-in_err-line-clause-memory : goal.returns-in_err-line-clause-memory
returns-in_err-line-clause-memory g c is = Keeps-refl _
