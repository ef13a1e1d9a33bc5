use Rattle.std.proofs.Common.{ℕ, ◌*◌, ◌++◌, List, refl, arith}
use Rattle.std.proofs.lemmas.Simd.{get_or-put_chunk_below}
use lib.Lanes.{chunk, pick_l, put_chunk}
use Rattle.text_io.proofs.DigitBlocks.{eight_lanes, stored-first, stored_spells, twice_eight}
use Rattle.text_io.proofs.digits.encoding.encode_eight.Goals as goal

pub returns-clause-spells : goal.returns-clause-spells
returns-clause-spells c =
    let octets = c.args.octets.now in
    let text = c.args.text.now in
    let at = c.args.at in
    let front = c.pairs_of.result.0 in
    let back = c.pairs_of.result.1 in
    let few : List ℕ = chunk at 8 octets in
    stored_spells octets (put_chunk (2 * at) text front) (pick_l 0 (few ++ few) twice_eight) (front ++ back) at 8
    (omega arith)
    (λ j lt. eight_lanes octets at j c.requires.within lt)
    (λ m lt. stored-first text front front back (2 * at) 16 m c.pairs_of.ensures.front c.pairs_of.ensures.front
    (omega arith) (omega (arith, c.requires.fits, c.requires.within)) (λ j below. refl) lt)
    c.pairs_of.ensures.spells

pub returns-clause-keeps : goal.returns-clause-keeps
returns-clause-keeps c k lt = get_or-put_chunk_below (2 * c.args.at) c.args.text.now c.pairs_of.result.0 k 0 lt
