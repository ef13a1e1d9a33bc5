use Rattle.std.proofs.Common.{ℕ, ◌*◌, ◌++◌, List, refl, arith}
use Rattle.std.proofs.lemmas.Simd.{get_or-put_chunk_below}
use lib.Lanes.{chunk, pick_l, put_chunk}
use Rattle.text_io.proofs.DigitBlocks.{four_lanes, four_times, front, front-eight, get_or-front, stored-first, stored_spells}
use Rattle.text_io.proofs.digits.encoding.encode_four.Goals as goal

pub returns-clause-spells : goal.returns-clause-spells
returns-clause-spells c =
    let octets = c.args.octets.now in
    let text = c.args.text.now in
    let at = c.args.at in
    let first = c.pairs_of.result.0 in
    let back = c.pairs_of.result.1 in
    let few : List ℕ = chunk at 4 octets in
    stored_spells octets (put_chunk (2 * at) text (front 8 first)) (pick_l 0 (few ++ few) four_times)
    (first ++ back) at 4 (omega arith)
    (λ j lt. four_lanes octets at j c.requires.within lt)
    (λ m lt. stored-first text (front 8 first) first back (2 * at) 8 m refl c.pairs_of.ensures.front (omega arith)
    (omega (arith, c.requires.fits, c.requires.within))
    (λ j below. get_or-front 8 first j (front-eight first c.pairs_of.ensures.front) below) lt) c.pairs_of.ensures.spells

pub returns-clause-keeps : goal.returns-clause-keeps
returns-clause-keeps c k lt = get_or-put_chunk_below (2 * c.args.at) c.args.text.now
    (front 8 c.pairs_of.result.0) k 0 lt
