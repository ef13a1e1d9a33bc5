use Rattle.trace.proofs.PieceLaws.{all-read}
use Rattle.trace.proofs.laws.cut_anywhere.Goals as goal

pub returns : goal.returns
returns c = all-read
