-- The parts are put one after the other.
use Rattle.std.proofs.Common.{ap}
use Rattle.text_io.specs.BufferLaws.{Puts-then, Puts-same}
use Rattle.report.specs.Report.{network_line}
use Rattle.report.proofs.reported.put_heading_in.Goals as goal

pub returns : goal.returns
returns g c =
    let form = g.F.LineForm.written in
    Puts-then
    (Puts-then (Puts-same (ap (λ n. form (network_line n)) c.config.ensures) c.put_network_line_in.ensures)
    (Puts-same (ap form c.totals.ensures) c.put_counts_line_in.ensures))
    c.put_stations_in.ensures
