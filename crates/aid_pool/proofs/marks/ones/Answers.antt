use Rattle.std.proofs.Common.{w64, arith, rules}
use Rattle.std.proofs.lemmas.Nat.Bits.{bit_at-trailing_ones}
use Rattle.aid_pool.proofs.marks.ones.Goals as goal

pub returns : goal.returns
returns c = search (rules, bit_at-trailing_ones w64 c.args.word (omega arith))
