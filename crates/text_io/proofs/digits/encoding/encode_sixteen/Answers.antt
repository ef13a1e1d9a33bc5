use Rattle.std.proofs.Common.{ℕ, ◌+◌, ◌*◌, ◌++◌, List, arith, ◌∙◌}
use Rattle.std.proofs.lemmas.Simd.{get_or-chunk, get_or-put_chunk_below}
use lib.Lanes.{chunk, put_chunk}
use Rattle.text_io.proofs.DigitBlocks.{stored-two, stored_spells}
use Rattle.text_io.proofs.digits.encoding.encode_sixteen.Goals as goal

pub returns-clause-spells : goal.returns-clause-spells
returns-clause-spells c =
    let octets = c.args.octets.now in
    let text = c.args.text.now in
    let at = c.args.at in
    let pairs = c.pairs_of in
    let written : List ℕ = put_chunk (2 * at + 16) (put_chunk (2 * at) text pairs.result.0) pairs.result.1 in
    stored_spells octets written (chunk at 16 octets) (pairs.result.0 ++ pairs.result.1) at 16 (omega arith)
    (λ j lt. get_or-chunk at 16 octets j 0 lt)
    (λ m lt. stored-two text pairs.result.0 pairs.result.1 (2 * at) m pairs.ensures.front pairs.ensures.back
    (omega (arith, c.requires.fits, c.requires.within)) lt)
    pairs.ensures.spells

pub returns-clause-keeps : goal.returns-clause-keeps
returns-clause-keeps c k lt =
    let at = c.args.at in
    let text = c.args.text.now in
    let pairs = c.pairs_of in
    get_or-put_chunk_below (2 * at + 16) (put_chunk (2 * at) text pairs.result.0) pairs.result.1 k 0 (omega arith)
    ∙ get_or-put_chunk_below (2 * at) text pairs.result.0 k 0 lt
