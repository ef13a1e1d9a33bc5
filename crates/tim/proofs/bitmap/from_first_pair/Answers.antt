use Rattle.std.proofs.Common.{◌∙◌, arith, rules, length-drop}
use Rattle.std.proofs.lemmas.List.{length-take}
use Rattle.tim.proofs.Partial.{from_first_pair_zero, from_first_pair_other}
use Rattle.tim.proofs.bitmap.from_first_pair.Goals as goal
use Rattle.tim.proofs.bitmap.from_first_pair.Goals.{in_default, in_default-2, in_default-3}

pub loop-octets-preserved : goal.loop-octets-preserved
loop-octets-preserved c = (search (rules, length-take, length-drop), from_first_pair_zero _ _ (omega arith) (search rules) (search rules) ∙ c.loop-octets.invariant.1)

pub returns-clause-octets : goal.returns-clause-octets
returns-clause-octets c = from_first_pair_other c.loop-octets.passed c.loop-octets.octets.now (λ two. elim c.if-octets-lt2.branch [ in_default w ↦ search rules | in_default-2 w ↦ search rules | in_default-3 w ↦ search rules ]) ∙ c.loop-octets.invariant.1
