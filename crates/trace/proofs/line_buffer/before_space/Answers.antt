use Rattle.std.proofs.Common.{eqb, sym, ap, ◌∙◌, arith, w8}
use lib.Count.{count_trailing_zeros}
use Rattle.std.proofs.lemmas.Simd.{bitmask_splat, leading_from_mask_l, trailing_mask_l}
use Rattle.trace.proofs.line_buffer.before_space.Goals as goal

pub returns-then-spaces-eq0 : goal.returns-then-spaces-eq0
returns-then-spaces-eq0 c =
    let found = bitmask_splat w8 eqb c.args.block 16 32 c.requires (omega arith) in
    sym (leading_from_mask_l (λ x. eqb x 32) c.args.block (sym found ∙ c.if-spaces-eq0.true) ∙ c.requires)

pub returns : goal.returns
returns c =
    let found = bitmask_splat w8 eqb c.args.block 16 32 c.requires (omega arith) in
    ap (count_trailing_zeros 64) found
    ∙ trailing_mask_l (λ x. eqb x 32) 64 c.args.block (omega (arith, c.requires)) (omega arith)
