use Rattle.std.proofs.Common.{length, ap}
use Rattle.report.specs.Report.{counts_line}
use Rattle.report.proofs.reported.SectionReported.totals.Goals as goal

pub returns : goal.returns
unfolding counts_line
returns c = cc (ap length c.as_slice.ensures, c.from.ensures, c.from-2.ensures, c.from-3.ensures, c.from-4.ensures)
