use Rattle.std.proofs.Common.{w64, sym, ap, ◌∙◌}
use Rattle.std.specs.Prelude.{if◌then◌else◌}
use Rattle.std.proofs.lemmas.Nat.Bits.{bit_at_set_same, bit_at_set_other, bit_at_clear_same, bit_at_clear_other}
use Rattle.downlink.proofs.ready.with_bit.Goals as goal

pub returns-then-is_set-clause-this : goal.returns-then-is_set-clause-this
returns-then-is_set-clause-this c =
    bit_at_set_same w64 c.args.word c.args.bit c.requires ∙ ap (λ b. if b then 1 else 0) (sym c.if-is_set.true)

pub returns-then-is_set-clause-others : goal.returns-then-is_set-clause-others
returns-then-is_set-clause-others c = λ i within other. bit_at_set_other w64 c.args.word c.args.bit c.requires i other

pub returns-else-is_set-clause-this : goal.returns-else-is_set-clause-this
returns-else-is_set-clause-this c =
    bit_at_clear_same w64 c.args.word c.args.bit c.requires ∙ ap (λ b. if b then 1 else 0) (sym c.if-is_set.false)

pub returns-else-is_set-clause-others : goal.returns-else-is_set-clause-others
returns-else-is_set-clause-others c = λ i within other. bit_at_clear_other w64 c.args.word c.args.bit c.requires i within other
