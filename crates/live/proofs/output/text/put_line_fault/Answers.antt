use Rattle.std.proofs.Common.{ap, ◌∙◌}
use Rattle.std.specs.Prelude.{decimal}
use Rattle.text_io.specs.BufferLaws.{Puts-then, Puts-same}
use Rattle.live.proofs.output.text.put_line_fault.Goals as goal

pub returns : goal.returns
returns g c =
    Puts-then
    (Puts-then
    (Puts-then
    (Puts-then c.put.ensures (Puts-same (ap decimal (c.from.ensures ∙ c.code.ensures)) c.put_number.ensures))
    c.put-2.ensures)
    c.put_number-2.ensures)
    c.put-3.ensures
