use Rattle.std.proofs.Common.{sym}
use Rattle.report.specs.Report.{station_line, associated_line}
use Rattle.text_io.specs.BufferLaws.{Puts-nothing, Puts-same}
use Rattle.report.proofs.lines.put_station_line_in.Goals as goal

pub returns-in-Unknown : goal.returns-in-Unknown
unfolding station_line
returns-in-Unknown g c =
    rw c.in-Unknown.is (Puts-same (sym g.met.F.LineForm.nothing) (Puts-nothing c.args.out.now c.requires))

pub returns-in-Authenticated : goal.returns-in-Authenticated
unfolding station_line
returns-in-Authenticated g c = rw c.in-Authenticated.is c.put_authenticated.ensures

pub returns-in-Associated : goal.returns-in-Associated
unfolding station_line associated_line
returns-in-Associated g c = rw c.in-Associated.is c.put_associated.ensures
