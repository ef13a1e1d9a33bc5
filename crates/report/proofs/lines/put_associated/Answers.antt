-- The words, the address, the numbers and the mode.
use Rattle.std.proofs.Common.{◌≡◌, ◌∙◌, ap, append_assoc}
use Rattle.std.specs.Fmt.{decimal}
use Rattle.mac_frame.specs.Address.{address_text}
use Rattle.events.specs.declared.section.StationRow.{StationRow}
use Rattle.text_io.specs.BufferLaws.{Puts-same}
use Rattle.report.specs.Report.{associated_line, mode_text}
use Rattle.report.proofs.lines.put_associated.Goals as goal

pub returns : goal.returns
unfolding associated_line
returns g c =
    let row : StationRow = c.args.row.now in
    let addr : c.address_text-addr.result ≡ address_text row.addr = c.address_text-addr.ensures in
    let aid : c.as_bytes.result.now ≡ decimal row.aid = c.as_bytes.ensures.value ∙ c.format.ensures.text in
    let listen : c.as_bytes-2.result.now ≡ decimal row.listen = c.as_bytes-2.ensures.value ∙ c.format-2.ensures.text in
    let mode : c.mode_text.result.now ≡ mode_text row.doze = c.mode_text.ensures in
    let kept : c.as_bytes-3.result.now ≡ decimal row.kept = c.as_bytes-3.ensures.value ∙ c.format-3.ensures.text in
    Puts-same (ap g.F.LineForm.written (rw (addr, aid, listen, mode, kept) (simp append_assoc))) c.put_line.ensures
