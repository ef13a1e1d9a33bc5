use Rattle.std.proofs.Common.{◌∙◌, arith, rules}
use Rattle.std.proofs.lemmas.List.{length-take}
use Rattle.tim.proofs.Partial.{up_to_last_zero, up_to_last_other}
use Rattle.tim.proofs.bitmap.up_to_last.Goals as goal

pub loop-octets-preserved : goal.loop-octets-preserved
loop-octets-preserved c = (search (rules, length-take), up_to_last_zero _ (omega arith) (search rules) ∙ c.loop-octets.invariant.1)

pub returns-in_default-clause-octets : goal.returns-in_default-clause-octets
returns-in_default-clause-octets c = up_to_last_other _ (λ some. search rules) ∙ c.loop-octets.invariant.1

pub returns-in_default-2-clause-octets : goal.returns-in_default-2-clause-octets
returns-in_default-2-clause-octets c = up_to_last_other _ (λ some. search rules) ∙ c.loop-octets.invariant.1
