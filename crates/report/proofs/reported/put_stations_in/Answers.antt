-- One more station's line is put.
use Rattle.std.proofs.Common.{arith}
use Rattle.text_io.specs.BufferLaws.{Puts-nothing, Puts-found, Puts-items}
use Rattle.report.specs.Report.{station_line}
use Rattle.report.proofs.reported.put_stations_in.Goals as goal

pub loop-place-init : goal.loop-place-init
loop-place-init g c = Puts-nothing _ c.requires

pub loop-place-preserved : goal.loop-place-preserved
loop-place-preserved g c =
    Puts-found (λ row. g.F.LineForm.written (station_line row)) _ _ _ c.row.ensures c.loop-place.invariant
    c.put_station_line_in.ensures

pub returns : goal.returns
returns g c =
    Puts-items (λ row. g.F.LineForm.written (station_line row)) (g.R.Reported.told c.args.network.now).table
    c.loop-place.place
    (omega (arith, c.loop-place-test.false, c.table_len-place-end.ensures))
    c.loop-place.invariant
