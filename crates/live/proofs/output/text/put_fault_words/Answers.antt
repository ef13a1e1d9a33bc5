use Rattle.text_io.specs.BufferLaws.{Puts-then}
use Rattle.live.proofs.output.text.put_fault_words.Goals as goal

pub returns : goal.returns
returns g c = Puts-then (Puts-then (Puts-then c.put.ensures c.put-2.ensures) c.put-3.ensures) c.put_number.ensures
