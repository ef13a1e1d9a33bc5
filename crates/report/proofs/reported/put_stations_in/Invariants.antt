-- The lines of the stations so far were put.
use Rattle.std.proofs.Common.{take}
use Rattle.std.specs.Prelude.{flat_map}
use Rattle.text_io.specs.Buffers.{Puts, watch}
use Rattle.report.specs.Report.{station_line}
use Rattle.report.proofs.reported.put_stations_in.Given as goal

abbrev pub invariant-loop-place : goal.invariant-loop-place
invariant-loop-place g l =
    Puts (watch g.W.Sink.taken g.W.Sink.failed) l.initial.out l.out
    (flat_map (λ row. g.F.LineForm.written (station_line row)) (take l.place (g.R.Reported.told l.network).table))
