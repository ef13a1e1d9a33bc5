use Rattle.text_io.specs.BufferLaws.{Puts-same}
use Rattle.live.proofs.TableTexts.{all-tables}
use Rattle.live.proofs.output.put_tables.Goals as goal

pub returns-in-Lines : goal.returns-in-Lines
returns-in-Lines g c = rw c.in-Lines.is (Puts-same (all-tables c.args.networks.now) c.put_tables_in.ensures)
