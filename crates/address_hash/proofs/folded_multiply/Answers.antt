use Rattle.std.specs.Hash.FoldHasher.{folded_multiply}
use Rattle.address_hash.proofs.folded_multiply.Goals as goal

pub returns : goal.returns
unfolding folded_multiply
returns c = rw (c.from.ensures, c.from-2.ensures)
