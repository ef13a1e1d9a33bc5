use Rattle.std.proofs.Common.{◌≡◌, ap, append_assoc}
use Rattle.mac_frame.specs.Address.{address_text}
use Rattle.text_io.specs.BufferLaws.{Puts-same}
use Rattle.report.specs.Report.{authenticated_line}
use Rattle.report.proofs.lines.put_authenticated.Goals as goal

pub returns : goal.returns
unfolding authenticated_line
returns g c =
    let addr : c.address_text.result ≡ address_text c.args.addr = c.address_text.ensures in
    Puts-same (ap g.F.LineForm.written (rw addr (simp append_assoc))) c.put_line.ensures
