use Rattle.std.proofs.Common.{w64, arith}
use Rattle.std.proofs.lemmas.Nat.Bits.{bit_at-trailing_zeros}
use Rattle.downlink.proofs.ready.lowest_bit.Goals as goal

pub returns-clause-this : goal.returns-clause-this
returns-clause-this c = (bit_at-trailing_zeros w64 c.args.word (omega arith) (omega arith)).1

pub returns-clause-lower : goal.returns-clause-lower
returns-clause-lower c = (bit_at-trailing_zeros w64 c.args.word (omega arith) (omega arith)).2
