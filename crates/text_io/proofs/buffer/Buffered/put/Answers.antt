use Rattle.text_io.specs.BufferLaws.{Puts-held}
use Rattle.text_io.proofs.buffer.Buffered.put.Goals as goal

pub returns : goal.returns
returns g c =
    let h = c.hold.ensures in Puts-held _ _ _ c.requires h.same_sink h.sink h.held h.flag
