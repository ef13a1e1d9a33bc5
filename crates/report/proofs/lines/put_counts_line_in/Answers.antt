-- The words and the numbers.
use Rattle.std.proofs.Common.{◌≡◌, ◌∙◌, ap, append_assoc}
use Rattle.std.specs.Fmt.{decimal}
use Rattle.text_io.specs.BufferLaws.{Puts-same}
use Rattle.report.specs.Report.{counts_line}
use Rattle.report.specs.declared.lines.Totals.{Totals}
use Rattle.report.proofs.lines.put_counts_line_in.Goals as goal

pub returns : goal.returns
unfolding counts_line
returns g c =
    let totals : Totals = c.args.totals.now in
    let events : c.as_bytes.result.now ≡ decimal totals.events = c.as_bytes.ensures.value ∙ c.format.ensures.text in
    let clock : c.as_bytes-2.result.now ≡ decimal totals.clock = c.as_bytes-2.ensures.value ∙ c.format-2.ensures.text in
    let unread : c.as_bytes-3.result.now ≡ decimal totals.unread =
    c.as_bytes-3.ensures.value ∙ c.format-3.ensures.text in
    let lost : c.as_bytes-4.result.now ≡ decimal totals.lost = c.as_bytes-4.ensures.value ∙ c.format-4.ensures.text in
    let kept : c.as_bytes-5.result.now ≡ decimal totals.kept = c.as_bytes-5.ensures.value ∙ c.format-5.ensures.text in
    Puts-same (ap g.F.LineForm.written (rw (events, clock, unread, lost, kept) (simp append_assoc))) c.put_line.ensures
